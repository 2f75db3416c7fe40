-- What a step can come to, case by case.
use Rattle.std.proofs.Common.{◌≡◌, ◌≢◌, ◌<◌, ◌≤◌, inl, inr, ℕ, [], ◌∷◌, ◌++◌, length, Option, Some, None, refl}
use Rattle.std.proofs.lemmas.Bool.{cases_eq, cases_lt, eq-eqb, ne_eqb, lt-ltb, le-ltb}
use Rattle.version_store.specs.declared.event.Event.TheVariants.{Pin}
use Rattle.version_store.specs.declared.event.Outcome.{Outcome}
use Rattle.version_store.specs.declared.event.Outcome.TheVariants.{Published, Stale, Full, Pinned, Idle}
use Rattle.tgap_model.specs.Base.{BaseMap}
use Rattle.version_store.specs.Machine.{Versions, newest, pin_of, with_pin, commit, by_pin, step}

-- the versions with one more, which its actor has pinned
abbrev pub grown : Versions → ℕ → BaseMap → Versions
grown v actor base = with_pin (record v { history = v.history ++ base ∷ [] }) actor (Some (length v.history))

module _ (P : Versions × Outcome → Type 0) (v : Versions) where
  -- what is done by a pin
  pub by_pin_cases : (actor : ℕ) (f : ℕ → Versions × Outcome) → (pin_of v actor ≡ None → P (v, Idle)) → ((pin : ℕ) → pin_of v actor ≡ Some pin → P (f pin))
      → P (by_pin v actor f)
  by_pin_cases actor f none some = by (pin_of v actor) refl
    where
      by : (o : Option ℕ) → pin_of v actor ≡ o → P (elim o [ None ↦ (v, Idle) | Some pin ↦ f pin ])
      by None e = none e
      by (Some pin) e = some pin e

  -- a commit
  pub commit_cases : (actor pin : ℕ) (base : BaseMap) → (pin ≢ newest v → P (v, Stale (newest v)))
      → (pin ≡ newest v → length v.history ≡ v.limit → P (v, Full v.limit))
      → (pin ≡ newest v → length v.history ≢ v.limit → P (grown v actor base, Published (length v.history))) → P (commit v actor pin base)
  commit_cases actor pin base stale full next = elim (cases_eq pin (newest v)) [
    | inr other ↦ rw (ne_eqb pin (newest v) other) (stale other)
    | inl same ↦ rw (eq-eqb pin (newest v) same) (elim (cases_eq (length v.history) v.limit) [
      | inl no_room ↦ rw (eq-eqb (length v.history) v.limit no_room) (full same no_room)
      | inr room ↦ rw (ne_eqb (length v.history) v.limit room) (next same room)
    ])
  ]

  -- a pin
  pub pin_cases : (actor : ℕ) → (length v.pins ≤ actor → P (v, Idle)) → (actor < length v.pins → P (with_pin v actor (Some (newest v)), Pinned (newest v)))
      → P (step v (Pin actor))
  pin_cases actor none some = elim (cases_lt actor (length v.pins)) [
    | inl one ↦ rw (lt-ltb actor (length v.pins) one) (some one)
    | inr other ↦ rw (le-ltb actor (length v.pins) other) (none other)
  ]
