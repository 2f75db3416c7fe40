-- The machine of versions: a history of base maps that grows, and the versions that actors have pinned.
use Rattle.std.specs.Prelude.{ℕ, ◌-◌, not, nat_lt, ◌==◌, List, [], ◌∷◌, ◌++◌, length, get_or, set, Option, Some, None, if◌then◌else◌}
use Rattle.version_store.specs.declared.event.Event.{Event}
use Rattle.version_store.specs.declared.event.Event.TheVariants.{Begin, Commit, Pin, Read, Leave}
use Rattle.version_store.specs.declared.event.Outcome.{Outcome}
use Rattle.version_store.specs.declared.event.Outcome.TheVariants.{Began, Published, Stale, Full, Pinned, At, Left, Idle}
use Rattle.tgap_model.specs.Base.{BaseMap}

-- The versions, the number of each being its place; how many there may be; and by the number of an actor what it has pinned.
pub record Versions : Type 0 where
  pub history : List BaseMap
  pub limit : ℕ
  pub pins : List (Option ℕ)

-- the number of the newest version
abbrev pub newest : Versions → ℕ
newest v = length v.history - 1

-- the version that an actor has pinned; a number that is no actor's has pinned none
abbrev pub pin_of : Versions → ℕ → Option ℕ
pin_of v actor = get_or v.pins actor None

abbrev pub with_pin : Versions → ℕ → Option ℕ → Versions
with_pin v actor pin = record v { pins = set v.pins actor pin }

-- A map that is made of the version that an actor has pinned is the next version, where no newer one is there and there is room.
abbrev pub commit : Versions → ℕ → ℕ → BaseMap → Versions × Outcome
commit v actor pin base =
    if not (pin == newest v) then (v, Stale (newest v))
    else if length v.history == v.limit then (v, Full v.limit)
    else (with_pin (record v { history = v.history ++ base ∷ [] }) actor (Some (length v.history)), Published (length v.history))

-- what an event of an actor comes to, by what it has pinned; where it has pinned nothing, nothing is done
abbrev pub by_pin : Versions → ℕ → (ℕ → Versions × Outcome) → Versions × Outcome
by_pin v actor f = elim (pin_of v actor) [ None ↦ (v, Idle) | Some pin ↦ f pin ]

-- the versions after an event, and what comes of it
abbrev pub step : Versions → Event → Versions × Outcome
step v (Begin actor) = by_pin v actor (λ pin. (v, Began pin))
step v (Commit actor base) = by_pin v actor (λ pin. commit v actor pin base)
step v (Pin actor) = if nat_lt actor (length v.pins) then (with_pin v actor (Some (newest v)), Pinned (newest v)) else (v, Idle)
step v (Read actor) = by_pin v actor (λ pin. (v, At pin))
step v (Leave actor) = by_pin v actor (λ pin. (with_pin v actor None, Left))

-- the versions after some events, one after the other, and what comes of each
abbrev pub run : Versions → List Event → Versions × List Outcome
run v [] = (v, [])
run v (event ∷ events) =
    let s = step v event in
    let r = run s.0 events in
    (r.0, s.1 ∷ r.1)
