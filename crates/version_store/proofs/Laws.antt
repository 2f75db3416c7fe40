-- What holds of every list of events.
use Rattle.std.proofs.Common.{◌≡◌, ◌≢◌, ◌<◌, ◌≤◌, ◌⊎◌, ◌↔◌, inl, inr, ℕ, ◌+◌, List, [], ◌∷◌, ◌++◌, ◌==◌, if◌then◌else◌, length, map, Option, Some, None, All, AllPairs, refl, sym, ap, ◌∙◌, subst, arith}
use Rattle.std.proofs.lemmas.Bool.{cases_eq, cases_lt, eq-eqb, ne_eqb}
use Rattle.std.proofs.lemmas.List.{append-nil, append_assoc, length-append, get_or-set_same, get_or-set_other, get_or_past}
use Rattle.std.proofs.lemmas.List.Elements.{All-cons}
use Rattle.std.proofs.lemmas.List.Kept.{AllPairs-cons}
use Rattle.version_store.specs.declared.event.Event.{Event}
use Rattle.version_store.specs.declared.event.Event.TheVariants.{Begin, Commit, Pin, Read, Leave}
use Rattle.version_store.specs.declared.event.Outcome.{Outcome}
use Rattle.version_store.specs.declared.event.Outcome.TheVariants.{Began, Published, At, Left}
use Rattle.tgap_model.specs.Base.{BaseMap}
use Rattle.version_store.specs.Machine.{Versions, newest, pin_of, with_pin, commit, by_pin, step, run}
use Rattle.version_store.specs.Versions.{AreVersions, IsPin}
use Rattle.version_store.specs.Runs.{states, Turn, turns, publish, published_maps, IsPublishedRight, pinned_by, last_pinned, ReadsRight, KeepsPins}
use Rattle.version_store.proofs.Steps.{by_pin_cases, commit_cases, pin_cases}

-- what comes of the events is what their turns say
pub run_tells : (v : Versions) (events : List Event) → (run v events).1 ≡ map (λ t. t.outcome) (turns v events)
run_tells v [] = refl
run_tells v (event ∷ events) = ap (λ os. (step v event).1 ∷ os) (run_tells (step v event).0 events)

-- where no event is left, all is done
pub run_done : (v w : Versions) (events rest : List Event) (outcomes : List Outcome) → length rest ≡ 0
    → run v events ≡ ((run w rest).0, outcomes ++ (run w rest).1) → (w, outcomes) ≡ run v events
run_done v w events [] outcomes none e = sym (e ∙ ap (λ (os : List Outcome). (w, os)) (append-nil outcomes))
run_done v w events (event ∷ rest) outcomes none e = absurd (omega (arith, none))

-- ---- the history

-- the history after a step
abbrev Grows : Versions → Event → Versions × Outcome → Type 0
Grows v event s = (maps : List BaseMap) → s.0.history ++ maps ≡ v.history ++ publish event s.1 maps

step_grows : (v : Versions) (event : Event) → Grows v event (step v event)
step_grows v (Begin actor) = by_pin_cases (Grows v (Begin actor)) v actor (λ pin. (v, Began pin)) (λ e maps. refl) (λ pin e maps. refl)
step_grows v (Read actor) = by_pin_cases (Grows v (Read actor)) v actor (λ pin. (v, At pin)) (λ e maps. refl) (λ pin e maps. refl)
step_grows v (Leave actor) = by_pin_cases (Grows v (Leave actor)) v actor (λ pin. (with_pin v actor None, Left)) (λ e maps. refl) (λ pin e maps. refl)
step_grows v (Pin actor) = pin_cases (Grows v (Pin actor)) v actor (λ e maps. refl) (λ e maps. refl)
step_grows v (Commit actor base) =
    by_pin_cases (Grows v (Commit actor base)) v actor (λ pin. commit v actor pin base) (λ e maps. refl) (λ pin e.
    commit_cases (Grows v (Commit actor base)) v actor pin base (λ other maps. refl) (λ same full maps. refl) (λ same room maps. append_assoc v.history (base ∷ []) maps))

pub run_grows : (v : Versions) (events : List Event) → (run v events).0.history ≡ v.history ++ published_maps (turns v events)
run_grows v [] = sym (append-nil v.history)
run_grows v (event ∷ events) = run_grows (step v event).0 events ∙ step_grows v event (published_maps (turns (step v event).0 events))

-- ---- what is pinned

-- who has pinned something is an actor
within : (v : Versions) (actor n : ℕ) → pin_of v actor ≡ Some n → actor < length v.pins
within v actor n e = elim (cases_lt actor (length v.pins)) [
  | inl less ↦ less
  | inr past ↦ (let none : pin_of v actor ≡ None = get_or_past v.pins actor None past in absurd (let clash = sym none ∙ e in cc))
]

-- what an actor has pinned after one of them has pinned this
pin_after : (v : Versions) (a : ℕ) (pin : Option ℕ) (b : ℕ) → a < length v.pins
    → ((b ≡ a) × (pin_of (with_pin v a pin) b ≡ pin)) ⊎ ((b ≢ a) × (pin_of (with_pin v a pin) b ≡ pin_of v b))
pin_after v a pin b inside = elim (cases_eq b a) [
  | inl same ↦ inl (same, subst (λ (c : ℕ). pin_of (with_pin v a pin) c ≡ pin) (sym same) (get_or-set_same v.pins a pin None inside))
  | inr other ↦ inr (other, get_or-set_other v.pins a b pin None other)
]

-- there is a version, there is room for all, and what is pinned is one
pub record IsSound (v : Versions) : Type 0 where
  pub some : 0 < length v.history
  pub room : length v.history ≤ v.limit
  pub below : (actor n : ℕ) → pin_of v actor ≡ Some n → n < length v.history

pub sound : (v : Versions) → AreVersions v → IsSound v
sound v h = record { some = h.some; room = h.room; below = λ actor n e. subst (IsPin (length v.history)) e (h.pins actor None (within v actor n e)) }

repinned : (v : Versions) → IsSound v → (a : ℕ) → a < length v.pins → (pin : Option ℕ) → ((n : ℕ) → pin ≡ Some n → n < length v.history)
    → IsSound (with_pin v a pin)
repinned v h a inside pin fits = record {
  some = h.some;
  room = h.room;
  below = λ actor n e. elim (pin_after v a pin actor inside) [
    | inl here ↦ fits n (sym here.1 ∙ e)
    | inr there ↦ h.below actor n (sym there.1 ∙ e)
  ];
}

newest_below : (v : Versions) → IsSound v → (n : ℕ) → (let pinned : Option ℕ = Some (newest v) in pinned ≡ Some n) → n < length v.history
newest_below v h n e = let same : newest v ≡ n = cc in omega (arith, h.some, same)

sound_step : (v : Versions) (event : Event) → IsSound v → IsSound (step v event).0
sound_step v (Begin actor) h = by_pin_cases (λ s. IsSound s.0) v actor (λ pin. (v, Began pin)) (λ e. h) (λ pin e. h)
sound_step v (Read actor) h = by_pin_cases (λ s. IsSound s.0) v actor (λ pin. (v, At pin)) (λ e. h) (λ pin e. h)
sound_step v (Leave actor) h =
    by_pin_cases (λ s. IsSound s.0) v actor (λ pin. (with_pin v actor None, Left)) (λ e. h) (λ pin e.
    repinned v h actor (within v actor pin e) None (λ n none. absurd cc))
sound_step v (Pin actor) h = pin_cases (λ s. IsSound s.0) v actor (λ e. h) (λ inside. repinned v h actor inside (Some (newest v)) (newest_below v h))
sound_step v (Commit actor base) h =
    by_pin_cases (λ s. IsSound s.0) v actor (λ pin. commit v actor pin base) (λ e. h) (λ pin e.
    commit_cases (λ s. IsSound s.0) v actor pin base (λ other. h) (λ same full. h) (λ same left.
    let longer : length (v.history ++ base ∷ []) ≡ length v.history + 1 = length-append v.history (base ∷ []) in
    let more : IsSound (record v { history = v.history ++ base ∷ [] }) = record {
      some = omega (arith, longer);
      room = omega (arith, longer, h.room, left);
      below = λ a n p. omega (arith, longer, h.below a n p);
    } in
    repinned (record v { history = v.history ++ base ∷ [] }) more actor (within v actor pin e) (Some (length v.history)) (λ n same_number.
    let is : length v.history ≡ n = cc in
    omega (arith, longer, is))))

-- ---- commits

-- what a commit comes to says whether it may be published
published_turn : (v : Versions) (actor : ℕ) (base : BaseMap) → length v.history ≤ v.limit
    → ((n : ℕ) × ((step v (Commit actor base)).1 ≡ Published n)) ↔ ((pin_of v actor ≡ Some (newest v)) × (length v.history < v.limit))
published_turn v actor base room =
    by_pin_cases (λ s. ((n : ℕ) × (s.1 ≡ Published n)) ↔ ((pin_of v actor ≡ Some (newest v)) × (length v.history < v.limit))) v actor
    (λ pin. commit v actor pin base)
    (λ none. (λ h. absurd (let e = h.1 in cc), λ h. absurd (let e = sym none ∙ h.0 in cc)))
    (λ pin some. commit_cases (λ s. ((n : ℕ) × (s.1 ≡ Published n)) ↔ ((pin_of v actor ≡ Some (newest v)) × (length v.history < v.limit))) v actor pin base
    (λ other. (λ h. absurd (let e = h.1 in cc), λ h. absurd (other (let e = sym some ∙ h.0 in cc))))
    (λ same full. (λ h. absurd (let e = h.1 in cc), λ h. absurd (omega (arith, full, h.1))))
    (λ same left. (λ h. (some ∙ ap Some same, omega (arith, room, left)), λ h. (length v.history, refl))))

published_each : (v : Versions) (event : Event) → IsSound v → IsPublishedRight (record { before = v; event = event; outcome = (step v event).1 })
published_each v event h actor base e =
    subst (λ (f : Event). ((n : ℕ) × ((step v f).1 ≡ Published n)) ↔ ((pin_of v actor ≡ Some (newest v)) × (length v.history < v.limit))) (sym e)
    (published_turn v actor base h.room)

pub all_published : (v : Versions) (events : List Event) → IsSound v → All IsPublishedRight (turns v events)
all_published v [] h = λ k d l. absurd (omega (arith, l))
all_published v (event ∷ events) h =
    All-cons IsPublishedRight (record { before = v; event = event; outcome = (step v event).1 }) (turns (step v event).0 events)
    (published_each v event h) (all_published (step v event).0 events (sound_step v event h))

-- ---- reads

-- what an actor has pinned is what it pinned last
abbrev Follows : ℕ → Versions → Option ℕ → Type 0
Follows actor v last = (n : ℕ) → pin_of v actor ≡ Some n → last ≡ Some n

-- where actor a has pinned this version last
pinned_now : (actor a m : ℕ) (v : Versions) (last : Option ℕ) → a < length v.pins → Follows actor v last
    → Follows actor (with_pin v a (Some m)) (if a == actor then Some m else last)
pinned_now actor a m v last inside h n e = elim (pin_after v a (Some m) actor inside) [
  | inl here ↦ rw (eq-eqb a actor (sym here.0)) (sym here.1 ∙ e)
  | inr there ↦ rw (ne_eqb a actor (λ same. there.0 (sym same))) (h n (sym there.1 ∙ e))
]

follows_step : (actor : ℕ) (v : Versions) (event : Event) (last : Option ℕ) → Follows actor v last
    → Follows actor (step v event).0 (pinned_by actor last event (step v event).1)
follows_step actor v (Begin a) last h =
    by_pin_cases (λ s. Follows actor s.0 (pinned_by actor last (Begin a) s.1)) v a (λ pin. (v, Began pin)) (λ e. h) (λ pin e. h)
follows_step actor v (Read a) last h =
    by_pin_cases (λ s. Follows actor s.0 (pinned_by actor last (Read a) s.1)) v a (λ pin. (v, At pin)) (λ e. h) (λ pin e. h)
follows_step actor v (Leave a) last h =
    by_pin_cases (λ s. Follows actor s.0 (pinned_by actor last (Leave a) s.1)) v a (λ pin. (with_pin v a None, Left)) (λ e. h) (λ pin e n p.
    elim (pin_after v a None actor (within v a pin e)) [
      | inl here ↦ absurd (let clash = sym here.1 ∙ p in cc)
      | inr there ↦ h n (sym there.1 ∙ p)
    ])
follows_step actor v (Pin a) last h =
    pin_cases (λ s. Follows actor s.0 (pinned_by actor last (Pin a) s.1)) v a (λ e. h) (λ inside. pinned_now actor a (newest v) v last inside h)
follows_step actor v (Commit a base) last h =
    by_pin_cases (λ s. Follows actor s.0 (pinned_by actor last (Commit a base) s.1)) v a (λ pin. commit v a pin base) (λ e. h) (λ pin e.
    commit_cases (λ s. Follows actor s.0 (pinned_by actor last (Commit a base) s.1)) v a pin base (λ other. h) (λ same full. h) (λ same left.
    pinned_now actor a (length v.history) (record v { history = v.history ++ base ∷ [] }) last (within v a pin e) h))

-- a read is answered from what is pinned
read_step : (v : Versions) (event : Event) (actor n : ℕ) → event ≡ Read actor → pin_of v actor ≡ Some n → (step v event).1 ≡ At n
read_step v event actor n is pin = rw (is, by_pin, pin) refl

reads : (actor n : ℕ) (v : Versions) (events : List Event) (last : Option ℕ) (earlier later : List Turn) (t : Turn) → Follows actor v last
    → turns v events ≡ earlier ++ t ∷ later → t.event ≡ Read actor → pin_of t.before actor ≡ Some n
    → (t.outcome ≡ At n) × (last_pinned actor last earlier ≡ Some n)
reads actor n v [] last [] later t h e is pin = absurd cc
reads actor n v [] last (s ∷ earlier) later t h e is pin = absurd cc
reads actor n v (event ∷ events) last [] later t h e is pin =
    let first : record { before = v; event = event; outcome = (step v event).1 } ≡ t = cc in
    let event_is : event ≡ Read actor = ap (λ (u : Turn). u.event) first ∙ is in
    let pinned : pin_of v actor ≡ Some n = ap (λ (u : Turn). pin_of u.before actor) first ∙ pin in
    (sym (ap (λ (u : Turn). u.outcome) first) ∙ read_step v event actor n event_is pinned, h n pinned)
reads actor n v (event ∷ events) last (s ∷ earlier) later t h e is pin =
    let first : record { before = v; event = event; outcome = (step v event).1 } ≡ s = cc in
    let rest : turns (step v event).0 events ≡ earlier ++ t ∷ later = cc in
    let found = reads actor n (step v event).0 events (pinned_by actor last event (step v event).1) earlier later t (follows_step actor v event last h) rest is pin in
    (found.0, subst (λ (u : Turn). last_pinned actor (pinned_by actor last u.event u.outcome) earlier ≡ Some n) first found.1)

pub all_read : (v : Versions) (events : List Event) → ReadsRight v (turns v events)
all_read v events earlier later t actor n e is pin = reads actor n v events (pin_of v actor) earlier later t (λ m p. p) e is pin

-- ---- pins

-- the later versions have all that an actor had pinned, and what it pins is no older
abbrev IsAfter : Versions → Versions → Type 0
IsAfter v w = (actor n : ℕ) → pin_of v actor ≡ Some n → (n < length w.history) × ((m : ℕ) → pin_of w actor ≡ Some m → n ≤ m)

after_itself : (v : Versions) → IsSound v → IsAfter v v
after_itself v h actor n e = (h.below actor n e, λ m p. (let same : n ≡ m = (let both = sym e ∙ p in cc) in omega (arith, same)))

-- after another actor, or the same, has pinned a version that is no older than any of these
after_pin : (v w : Versions) (a : ℕ) (pin : Option ℕ) → a < length w.pins → ((n m : ℕ) → n < length w.history → pin ≡ Some m → n ≤ m) → IsAfter v w
    → IsAfter v (with_pin w a pin)
after_pin v w a pin inside late h actor n e =
    let was = h actor n e in (
      was.0,
      λ m p. elim (pin_after w a pin actor inside) [
        | inl here ↦ late n m was.0 (sym here.1 ∙ p)
        | inr there ↦ was.1 m (sym there.1 ∙ p)
      ],
    )

after_step : (v w : Versions) (event : Event) → IsSound w → IsAfter v w → IsAfter v (step w event).0
after_step v w (Begin a) s h = by_pin_cases (λ r. IsAfter v r.0) w a (λ pin. (w, Began pin)) (λ e. h) (λ pin e. h)
after_step v w (Read a) s h = by_pin_cases (λ r. IsAfter v r.0) w a (λ pin. (w, At pin)) (λ e. h) (λ pin e. h)
after_step v w (Leave a) s h =
    by_pin_cases (λ r. IsAfter v r.0) w a (λ pin. (with_pin w a None, Left)) (λ e. h) (λ pin e.
    after_pin v w a None (within w a pin e) (λ n m l none. absurd cc) h)
after_step v w (Pin a) s h =
    pin_cases (λ r. IsAfter v r.0) w a (λ e. h) (λ inside.
    after_pin v w a (Some (newest w)) inside (λ n m l is. (let same : newest w ≡ m = cc in omega (arith, l, same))) h)
after_step v w (Commit a base) s h =
    by_pin_cases (λ r. IsAfter v r.0) w a (λ pin. commit w a pin base) (λ e. h) (λ pin e.
    commit_cases (λ r. IsAfter v r.0) w a pin base (λ other. h) (λ same full. h) (λ same left.
    let longer : length (w.history ++ base ∷ []) ≡ length w.history + 1 = length-append w.history (base ∷ []) in
    let more : IsAfter v (record w { history = w.history ++ base ∷ [] }) = λ actor n p. (omega (arith, longer, (h actor n p).0), (h actor n p).1) in
    λ actor n p. (
      (more actor n p).0,
      λ m q. elim (pin_after (record w { history = w.history ++ base ∷ [] }) a (Some (length w.history)) actor (within w a pin e)) [
        | inl here ↦ (let is : length w.history ≡ m = (let both = sym here.1 ∙ q in cc) in omega (arith, is, (h actor n p).0))
        | inr there ↦ (h actor n p).1 m (sym there.1 ∙ q)
      ],
    )))

all_after : (v w : Versions) (events : List Event) → IsSound w → IsAfter v w → All (KeepsPins v) (states w events)
all_after v w [] s h = All-cons (KeepsPins v) w [] (λ actor n m e p. (h actor n e).1 m p) (λ k d l. absurd (omega (arith, l)))
all_after v w (event ∷ events) s h =
    All-cons (KeepsPins v) w (states (step w event).0 events) (λ actor n m e p. (h actor n e).1 m p)
    (all_after v (step w event).0 events (sound_step w event s) (after_step v w event s h))

pub pins_kept : (v : Versions) (events : List Event) → IsSound v → AllPairs KeepsPins (states v events)
pins_kept v [] s = λ i j d less inside. absurd (omega (arith, less, inside))
pins_kept v (event ∷ events) s =
    AllPairs-cons KeepsPins v (states (step v event).0 events)
    (all_after v (step v event).0 events (sound_step v event s) (after_step v v event s (after_itself v s)))
    (pins_kept (step v event).0 events (sound_step v event s))
