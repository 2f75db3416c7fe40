-- The steps at which a face is live: from the one that makes it to before the one that merges it.
use Rattle.std.proofs.Common.{◌≡◌, ◌<◌, ◌≤◌, inl, inr, ℕ, zero, suc, ◌+◌, ◌-◌, Bool, true, false, ◌==◌, List, [], ◌∷◌, ◌++◌, length, get_or, take, drop, Option, Some, None, refl, sym, ap, ◌∙◌, subst, arith, eq-eqb}
use Rattle.std.specs.Prelude.{IsTrue}
use Rattle.std.specs.List.{list_any, range_with_len}
use Rattle.std.proofs.lemmas.Bool.{cases_eq, or_cases, or_left, or_right, eqb-true}
use Rattle.std.proofs.lemmas.Bool.Decides.{leb_tells}
use Rattle.tgap_model.specs.declared.merge.MergeStep.{MergeStep}
use Rattle.tgap_model.specs.History.{relabel, label_after, AreNumbered}
use Rattle.map_laws.proofs.MergeSteps.{numbered_at, relabel_loser, label_next, label_bounded}
use Rattle.face_tree.specs.Tree.{FaceHistory, IsFace, IsLiveFrom, IsParent, MergesLive, is_live, merges, parent_by, parent_of, low_step, high_step, high_by, step_after}
use Rattle.face_tree.proofs.Ways.{label_up, merges_or_leaves, parent_left, high_parent, high_root, label_itself, label_late}

-- ---- a test of some numbers in a row

-- one of them passes
some_passes : (p : ℕ → Bool) (a n g : ℕ) → a ≤ g → g < a + n → p g ≡ true → list_any p (range_with_len a n) ≡ true
some_passes p a zero g low high e = absurd (omega arith)
some_passes p a (suc n) g low high e = elim (cases_eq g a) [
  | inl same ↦ or_left (p a) _ (subst (λ (x : ℕ). p x ≡ true) same e)
  | inr other ↦ or_right (p a) _ (some_passes p (a + 1) n g (omega arith) (omega arith) e)
]

-- the one that passes
record Passes (p : ℕ → Bool) (a n : ℕ) : Type 0 where
  number : ℕ
  low : a ≤ number
  high : number < a + n
  pass : p number ≡ true

which_passes : (p : ℕ → Bool) (a n : ℕ) → list_any p (range_with_len a n) ≡ true → Passes p a n
which_passes p a zero e = absurd cc
which_passes p a (suc n) e = elim (or_cases (p a) (list_any p (range_with_len (a + 1) n)) e) [
  | inl here ↦ record { number = a; low = omega arith; high = omega arith; pass = here }
  | inr later ↦
      let h = which_passes p (a + 1) n later in
      record { number = h.number; low = omega (arith, h.low); high = omega (arith, h.high); pass = h.pass }
]

-- ---- live faces

-- the face is the label of a face of the base map after these steps
pub record IsLabel (n : ℕ) (steps : List MergeStep) (f : ℕ) : Type 0 where
  pub base : ℕ
  pub above : 0 < base
  pub below : base ≤ n
  pub label : label_after steps base ≡ f

pub live_from : (t : FaceHistory) (k f : ℕ) → IsLabel t.faces (take k t.steps) f → is_live t k f ≡ true
live_from t k f h =
    some_passes (λ g. label_after (take k t.steps) g == f) 1 t.faces h.base (omega (arith, h.above)) (omega (arith, h.below)) (eq-eqb _ f h.label)

pub live_to : (t : FaceHistory) (k f : ℕ) → is_live t k f ≡ true → IsLabel t.faces (take k t.steps) f
live_to t k f e =
    let h = which_passes (λ g. label_after (take k t.steps) g == f) 1 t.faces e in
    record { base = h.number; above = omega (arith, h.low); below = omega (arith, h.high); label = eqb-true _ f h.pass }

-- ---- the range

-- the label by steps one after the other
pub label_append : (xs ys : List MergeStep) (f : ℕ) → label_after (xs ++ ys) f ≡ label_after ys (label_after xs f)
label_append [] ys f = refl
label_append (s ∷ xs) ys f = label_append xs ys (relabel s f)

-- first the steps up to j, then those up to k
label_later : (steps : List MergeStep) (j k f : ℕ) → j ≤ k → label_after (take k steps) f ≡ label_after (drop j (take k steps)) (label_after (take j steps) f)
label_later steps zero k f le = refl
label_later [] (suc j) zero f le = absurd (omega arith)
label_later [] (suc j) (suc k) f le = refl
label_later (s ∷ steps) (suc j) zero f le = absurd (omega arith)
label_later (s ∷ steps) (suc j) (suc k) f le = label_later steps j k (relabel s f) (omega arith)

-- a face of the base map begins as itself
up_base : (t : FaceHistory) (k f : ℕ) → f ≤ t.faces → label_after (take k t.steps) f ≡ label_up t.faces t.steps k f
up_base t k f le =
    let e : 0 ≡ f - t.faces = omega arith in
    ap (λ (j : ℕ). label_after (drop j (take k t.steps)) f) e

-- a live face is made, and not yet merged
in_range : (t : FaceHistory) (k f : ℕ) → AreNumbered t.faces t.steps → k ≤ length t.steps → IsLabel t.faces (take k t.steps) f
    → (low_step t f ≤ k) × (k < high_step t f)
in_range t k f h inside l =
    let bound = label_bounded t.faces t.steps k l.base h inside l.below in
    (omega (arith, bound, l.label), unmerged (parent_of t f) refl)
  where
    unmerged : (o : Option ℕ) → parent_of t f ≡ o → k < high_step t f
    unmerged None e = omega (arith, high_root t.steps f e, inside)
    unmerged (Some p) e =
        let late = label_late t.faces t.steps k l.base f h (sym (up_base t k l.base l.below) ∙ l.label) p e in
        omega (arith, late, high_parent t.faces t.steps f p h e)

-- a face that is made and not yet merged is its own label
itself : (t : FaceHistory) (k f : ℕ) → AreNumbered t.faces t.steps → k < high_step t f → label_up t.faces t.steps k f ≡ f
itself t k f h early = label_itself t.faces t.steps k f h (λ p e. omega (arith, early, high_parent t.faces t.steps f p h e))

-- so it is live
live_in_range : (t : FaceHistory) (k f : ℕ) → AreNumbered t.faces t.steps → MergesLive t → k ≤ length t.steps → 0 < f → low_step t f ≤ k → k < high_step t f
    → IsLabel t.faces (take k t.steps) f
live_in_range t k f h live inside some low early = elim (leb_tells f t.faces) [
  | inl le ↦ record { base = f; above = some; below = le.1; label = up_base t k f le.1 ∙ itself t k f h early }
  | inr gt ↦ made (f - t.faces - 1) (omega (arith, gt.1))
]
  where
    made : (i : ℕ) → f ≡ t.faces + suc i → IsLabel t.faces (take k t.steps) f
    made i e =
        let place : i < length t.steps = omega (arith, low, inside) in
        let s = step_after t i in
        let child = live_to t i s.loser (live.loser i place) in
        let one : label_after (take (suc i) t.steps) child.base ≡ relabel s (label_after (take i t.steps) child.base) =
        label_next t.steps i (record { loser = 0; winner = 0; made = 0 }) child.base place in
        let numbered = numbered_at t.faces t.steps i (record { loser = 0; winner = 0; made = 0 }) h place in
        let number : s.made ≡ f = omega (arith, numbered.made, e) in
        let become : label_after (take (suc i) t.steps) child.base ≡ f = one ∙ (relabel_loser s _ child.label ∙ number) in
        let later = label_later t.steps (suc i) k child.base (omega (arith, low, e)) in
        let place_is : suc i ≡ f - t.faces = omega (arith, e) in
        record {
          base = child.base;
          above = child.above;
          below = child.below;
          label = later
              ∙ (ap (label_after (drop (suc i) (take k t.steps))) become
              ∙ (ap (λ (j : ℕ). label_after (drop j (take k t.steps)) f) place_is ∙ itself t k f h early));
        }

-- a face is live exactly in its range
pub live_range : (t : FaceHistory) (f : ℕ) → AreNumbered t.faces t.steps → MergesLive t → IsFace t f → IsLiveFrom t f (low_step t f) (high_step t f)
live_range t f h live face = λ k inside. (
  (λ e. in_range t k f h inside (live_to t k f e)),
  (λ r. live_from t k f (live_in_range t k f h live inside face.above r.0 r.1)),
)

-- ---- the end of the way up

-- a face that is its own label is live
pub top_live : (t : FaceHistory) (k f : ℕ) → AreNumbered t.faces t.steps → MergesLive t → k ≤ length t.steps → f ≤ t.faces + k → label_up t.faces t.steps k f ≡ f
    → 0 < f → is_live t k f ≡ true
top_live t k f h live inside made own some = live_from t k f (live_in_range t k f h live inside some (omega arith) (early (parent_of t f) refl))
  where
    early : (o : Option ℕ) → parent_of t f ≡ o → k < high_step t f
    early None e = omega (arith, high_root t.steps f e)
    early (Some p) e = omega (arith, high_parent t.faces t.steps f p h e, label_late t.faces t.steps k f f h own p e)

-- ---- the step that merges a face

-- a step that merges a face is none before the first one
high_within : (steps : List MergeStep) (j f : ℕ) (d : MergeStep) → j < length steps → merges (get_or steps j d) f ≡ true → high_by steps f ≤ j + 1
high_within [] j f d lt e = absurd (omega arith)
high_within (s ∷ steps) zero f d lt e =
    let high : high_by (s ∷ steps) f ≡ 1 = rw e refl in
    omega (arith, high)
high_within (s ∷ steps) (suc j) f d lt e = elim (merges_or_leaves s f) [
  | inl m ↦ let high : high_by (s ∷ steps) f ≡ 1 = rw m refl in omega (arith, high)
  | inr m ↦
      let high : high_by (s ∷ steps) f ≡ 1 + high_by steps f = rw m refl in
      omega (arith, high, high_within steps j f d (omega arith) e)
]

-- none is before step 1
high_some : (steps : List MergeStep) (f : ℕ) → 0 < high_by steps f
high_some [] f = omega arith
high_some (s ∷ steps) f = elim (merges_or_leaves s f) [
  | inl m ↦ let high : high_by (s ∷ steps) f ≡ 1 = rw m refl in omega (arith, high)
  | inr m ↦ let high : high_by (s ∷ steps) f ≡ 1 + high_by steps f = rw m refl in omega (arith, high)
]

-- the first one makes the parent
parent_made : (steps : List MergeStep) (j f : ℕ) (d : MergeStep) → j < length steps → high_by steps f ≡ j + 1 → parent_by steps f ≡ Some (get_or steps j d).made
parent_made [] j f d lt e = absurd (omega arith)
parent_made (s ∷ steps) zero f d lt e = elim (merges_or_leaves s f) [
  | inl m ↦ rw m refl
  | inr m ↦
      let high : high_by (s ∷ steps) f ≡ 1 + high_by steps f = rw m refl in
      absurd (omega (arith, high, high_some steps f))
]
parent_made (s ∷ steps) (suc j) f d lt e = elim (merges_or_leaves s f) [
  | inl m ↦ let high : high_by (s ∷ steps) f ≡ 1 = rw m refl in absurd (omega (arith, high))
  | inr m ↦
      let high : high_by (s ∷ steps) f ≡ 1 + high_by steps f = rw m refl in
      parent_left s steps f m ∙ parent_made steps j f d (omega arith) (omega (arith, high))
]

-- a face that no step merges has none
parent_none : (steps : List MergeStep) (f : ℕ) (d : MergeStep) → ((j : ℕ) → j < length steps → merges (get_or steps j d) f ≡ false) → parent_by steps f ≡ None
parent_none [] f d none = refl
parent_none (s ∷ steps) f d none = parent_left s steps f (none 0 (omega arith)) ∙ parent_none steps f d (λ j lt. none (suc j) (omega arith))

-- a face is merged while it is live, so by one step alone
pub parent_is : (t : FaceHistory) (f : ℕ) → AreNumbered t.faces t.steps → MergesLive t → IsParent t f (parent_of t f)
parent_is t f h live = record { merged = merged; root = parent_none t.steps f (record { loser = 0; winner = 0; made = 0 }) }
  where
    lives : (j : ℕ) → j < length t.steps → merges (step_after t j) f ≡ true → is_live t j f ≡ true
    lives j lt e = elim (or_cases (f == (step_after t j).loser) (f == (step_after t j).winner) e) [
      | inl l ↦ rw (eqb-true f (step_after t j).loser l) (live.loser j lt)
      | inr w ↦ rw (eqb-true f (step_after t j).winner w) (live.winner j lt)
    ]

    merged : (j : ℕ) → j < length t.steps → IsTrue (merges (step_after t j) f) → parent_of t f ≡ Some (step_after t j).made
    merged j lt e =
        let range = in_range t j f h (omega arith) (live_to t j f (lives j lt e)) in
        let within = high_within t.steps j f (record { loser = 0; winner = 0; made = 0 }) lt e in
        parent_made t.steps j f (record { loser = 0; winner = 0; made = 0 }) lt (omega (arith, range.1))
