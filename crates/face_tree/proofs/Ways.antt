-- The way from a face up to its label: the label by the steps after the one that makes the face, step by step.
use Rattle.std.proofs.Common.{◌≡◌, ◌<◌, ◌≤◌, ◌⊎◌, inl, inr, ℕ, zero, suc, ◌+◌, ◌-◌, Bool, true, false, ◌==◌, List, [], ◌∷◌, length, take, drop, Some, None, refl, sym, ap, ◌∙◌, arith}
use Rattle.std.proofs.lemmas.Bool.{or_cases, eqb-true}
use Rattle.std.proofs.lemmas.Bool.Decides.{leb_tells}
use Rattle.std.proofs.Math.Seq.{take-nil, drop-nil}
use Rattle.tgap_model.specs.declared.merge.MergeStep.{MergeStep}
use Rattle.tgap_model.specs.History.{relabel, label_after, AreNumbered, IsNumberedStep}
use Rattle.face_tree.specs.Tree.{merges, parent_by, high_by}

-- the label of face f after k steps, where the steps make the faces from n + 1 on
abbrev pub label_up : ℕ → List MergeStep → ℕ → ℕ → ℕ
label_up n steps k f = label_after (drop (f - n) (take k steps)) f

-- ---- one step

-- a step merges faces up to n alone
merged_below : (n : ℕ) (s : MergeStep) (f : ℕ) → IsNumberedStep n s → merges s f ≡ true → f ≤ n
merged_below n s f h e = below (or_cases (f == s.loser) (f == s.winner) e)
  where
    below : ((f == s.loser) ≡ true) ⊎ ((f == s.winner) ≡ true) → f ≤ n
    below (inl e) = omega (arith, eqb-true f s.loser e, h.loser)
    below (inr e) = omega (arith, eqb-true f s.winner e, h.winner)

-- it merges a face or leaves it
pub merges_or_leaves : (s : MergeStep) (f : ℕ) → (merges s f ≡ true) ⊎ (merges s f ≡ false)
merges_or_leaves s f = by (merges s f) refl
  where
    by : (b : Bool) → merges s f ≡ b → (merges s f ≡ true) ⊎ (merges s f ≡ false)
    by true e = inl e
    by false e = inr e

-- it leaves a later face
pub unmerged_above : (n : ℕ) (s : MergeStep) (f : ℕ) → IsNumberedStep n s → n < f → merges s f ≡ false
unmerged_above n s f h lt = elim (merges_or_leaves s f) [
  | inl e ↦ absurd (omega (arith, merged_below n s f h e))
  | inr e ↦ e
]

pub relabel_merged : (s : MergeStep) (f : ℕ) → merges s f ≡ true → relabel s f ≡ s.made
relabel_merged s f e = rw e refl

pub relabel_unmerged : (s : MergeStep) (f : ℕ) → merges s f ≡ false → relabel s f ≡ f
relabel_unmerged s f e = rw e refl

-- the label by one more step at the front is that of the face that it makes of this one
pub label_front : (n : ℕ) (s : MergeStep) (steps : List MergeStep) (k f : ℕ) → IsNumberedStep n s
    → label_up n (s ∷ steps) (suc k) f ≡ label_up (n + 1) steps k (relabel s f)
label_front n s steps k f h = elim (merges_or_leaves s f) [
  | inl e ↦
      let made = relabel_merged s f e in
      here (merged_below n s f h e) ∙ sym (early (relabel s f) (omega (arith, made, h.made)))
  | inr e ↦ elim (leb_tells f n) [
    | inl le ↦ here le.1 ∙ sym (early (relabel s f) (omega (arith, relabel_unmerged s f e, le.1)))
    | inr lt ↦ later lt.1 ∙ ap (label_up (n + 1) steps k) (sym (relabel_unmerged s f e))
  ]
]
  where
    early : (g : ℕ) → g ≤ n + 1 → label_up (n + 1) steps k g ≡ label_after (take k steps) g
    early g le = let e : g - (n + 1) ≡ 0 = omega arith in ap (λ (j : ℕ). label_after (drop j (take k steps)) g) e

    here : f ≤ n → label_up n (s ∷ steps) (suc k) f ≡ label_after (take k steps) (relabel s f)
    here le = let e : f - n ≡ 0 = omega arith in ap (λ (j : ℕ). label_after (drop j (s ∷ take k steps)) f) e

    later : n < f → label_up n (s ∷ steps) (suc k) f ≡ label_up (n + 1) steps k f
    later lt = let e : f - n ≡ suc (f - (n + 1)) = omega arith in ap (λ (j : ℕ). label_after (drop j (s ∷ take k steps)) f) e

-- the label of a face that the step merges, and of one that it leaves
label_merged : (n : ℕ) (s : MergeStep) (steps : List MergeStep) (k f : ℕ) → IsNumberedStep n s → merges s f ≡ true
    → label_up n (s ∷ steps) (suc k) f ≡ label_up (n + 1) steps k s.made
label_merged n s steps k f h m = label_front n s steps k f h ∙ ap (label_up (n + 1) steps k) (relabel_merged s f m)

label_left : (n : ℕ) (s : MergeStep) (steps : List MergeStep) (k f : ℕ) → IsNumberedStep n s → merges s f ≡ false
    → label_up n (s ∷ steps) (suc k) f ≡ label_up (n + 1) steps k f
label_left n s steps k f h m = label_front n s steps k f h ∙ ap (label_up (n + 1) steps k) (relabel_unmerged s f m)

-- before the first step each face has its own label
label_none : (n : ℕ) (steps : List MergeStep) (f : ℕ) → label_up n steps 0 f ≡ f
label_none n steps f = ap (λ (none : List MergeStep). label_after none f) (drop-nil (f - n))

label_empty : (n k f : ℕ) → label_up n [] k f ≡ f
label_empty n k f =
    ap (λ (none : List MergeStep). label_after (drop (f - n) none) f) (take-nil k)
    ∙ ap (λ (none : List MergeStep). label_after none f) (drop-nil (f - n))

-- ---- the parent

-- of a face that the first step merges, and of one that it leaves
parent_merged : (s : MergeStep) (steps : List MergeStep) (f p : ℕ) → parent_by (s ∷ steps) f ≡ Some p → merges s f ≡ true → p ≡ s.made
parent_merged s steps f p e m =
    let made : parent_by (s ∷ steps) f ≡ Some s.made = rw m refl in
    cc

pub parent_left : (s : MergeStep) (steps : List MergeStep) (f : ℕ) → merges s f ≡ false → parent_by (s ∷ steps) f ≡ parent_by steps f
parent_left s steps f m = rw m refl

-- a parent is made by a step, and has a greater number than its child
pub parent_above : (n : ℕ) (steps : List MergeStep) (f p : ℕ) → AreNumbered n steps → parent_by steps f ≡ Some p → (f < p) × (n < p) × (p ≤ n + length steps)
parent_above n [] f p h e = absurd cc
parent_above n (s ∷ steps) f p h e = elim (merges_or_leaves s f) [
  | inl m ↦
      let made = parent_merged s steps f p e m in
      let below = merged_below n s f h.0 m in
      (omega (arith, h.0.made), omega (arith, h.0.made), omega (arith, h.0.made))
  | inr m ↦
      let rest = parent_above (n + 1) steps f p h.1 (sym (parent_left s steps f m) ∙ e) in
      (rest.0, omega (arith, rest.1), omega (arith, rest.2))
]

-- the step that merges a face has the number of the parent among the faces that are made
pub high_parent : (n : ℕ) (steps : List MergeStep) (f p : ℕ) → AreNumbered n steps → parent_by steps f ≡ Some p → p ≡ n + high_by steps f
high_parent n [] f p h e = absurd cc
high_parent n (s ∷ steps) f p h e = elim (merges_or_leaves s f) [
  | inl m ↦
      let made = parent_merged s steps f p e m in
      let high : high_by (s ∷ steps) f ≡ 1 = rw m refl in
      omega (arith, high, h.0.made)
  | inr m ↦
      let rest = high_parent (n + 1) steps f p h.1 (sym (parent_left s steps f m) ∙ e) in
      let high : high_by (s ∷ steps) f ≡ 1 + high_by steps f = rw m refl in
      omega (arith, high, rest)
]

-- that of a root is after all steps
pub high_root : (steps : List MergeStep) (f : ℕ) → parent_by steps f ≡ None → high_by steps f ≡ length steps + 1
high_root [] f e = refl
high_root (s ∷ steps) f e = elim (merges_or_leaves s f) [
  | inl m ↦
      let made : parent_by (s ∷ steps) f ≡ Some s.made = rw m refl in
      absurd cc
  | inr m ↦
      let rest = high_root steps f (sym (parent_left s steps f m) ∙ e) in
      let high : high_by (s ∷ steps) f ≡ 1 + high_by steps f = rw m refl in
      omega (arith, high, rest)
]

-- a face has the label of its parent, where that is made by then
pub label_parent : (n : ℕ) (steps : List MergeStep) (k f p : ℕ) → AreNumbered n steps → parent_by steps f ≡ Some p → p ≤ n + k
    → label_up n steps k f ≡ label_up n steps k p
label_parent n [] k f p h e le = absurd cc
label_parent n (s ∷ steps) zero f p h e le = absurd (omega (arith, (parent_above n (s ∷ steps) f p h e).1))
label_parent n (s ∷ steps) (suc k) f p h e le =
    let above = (parent_above n (s ∷ steps) f p h e).1 in
    let up = label_left n s steps k p h.0 (unmerged_above n s p h.0 above) in
    elim (merges_or_leaves s f) [
      | inl m ↦ label_merged n s steps k f h.0 m ∙ (ap (label_up (n + 1) steps k) (sym (parent_merged s steps f p e m)) ∙ sym up)
      | inr m ↦
          let rest = label_parent (n + 1) steps k f p h.1 (sym (parent_left s steps f m) ∙ e) (omega (arith, le)) in
          label_left n s steps k f h.0 m ∙ (rest ∙ sym up)
    ]

-- a face that is not merged by then is its own label
pub label_itself : (n : ℕ) (steps : List MergeStep) (k f : ℕ) → AreNumbered n steps → ((p : ℕ) → parent_by steps f ≡ Some p → n + k < p) → label_up n steps k f ≡ f
label_itself n steps zero f h late = label_none n steps f
label_itself n [] (suc k) f h late = label_empty n (suc k) f
label_itself n (s ∷ steps) (suc k) f h late = elim (merges_or_leaves s f) [
  | inl m ↦
      let made : parent_by (s ∷ steps) f ≡ Some s.made = rw m refl in
      absurd (omega (arith, late s.made made, h.0.made))
  | inr m ↦
      let later : (p : ℕ) → parent_by steps f ≡ Some p → n + 1 + k < p = λ p e. omega (arith, late p (parent_left s steps f m ∙ e)) in
      label_left n s steps k f h.0 m ∙ label_itself (n + 1) steps k f h.1 later
]

-- ---- a label is not merged by then

-- a label is the face itself, or made by a step
label_made : (n : ℕ) (steps : List MergeStep) (k f : ℕ) → AreNumbered n steps → (label_up n steps k f ≡ f) ⊎ (n < label_up n steps k f)
label_made n steps zero f h = inl (label_none n steps f)
label_made n [] (suc k) f h = inl (label_empty n (suc k) f)
label_made n (s ∷ steps) (suc k) f h = elim (merges_or_leaves s f) [
  | inl m ↦ inr (above (label_made (n + 1) steps k s.made h.1) (label_merged n s steps k f h.0 m))
  | inr m ↦ same (label_made (n + 1) steps k f h.1) (label_left n s steps k f h.0 m)
]
  where
    label : ℕ
    label = label_up n (s ∷ steps) (suc k) f

    above : {l : ℕ} → (l ≡ s.made) ⊎ (n + 1 < l) → label ≡ l → n < label
    above (inl e) i = omega (arith, i, e, h.0.made)
    above (inr lt) i = omega (arith, i, lt)

    same : {l : ℕ} → (l ≡ f) ⊎ (n + 1 < l) → label ≡ l → (label ≡ f) ⊎ (n < label)
    same (inl e) i = inl (i ∙ e)
    same (inr lt) i = inr (omega (arith, i, lt))

-- a step does not merge what it relabels to
relabelled_unmerged : (n : ℕ) (s : MergeStep) (f : ℕ) → IsNumberedStep n s → merges s (relabel s f) ≡ false
relabelled_unmerged n s f h = elim (merges_or_leaves s f) [
  | inl m ↦ ap (merges s) (relabel_merged s f m) ∙ unmerged_above n s s.made h (omega (arith, h.made))
  | inr m ↦ ap (merges s) (relabel_unmerged s f m) ∙ m
]

pub label_late : (n : ℕ) (steps : List MergeStep) (k f g : ℕ) → AreNumbered n steps → label_up n steps k f ≡ g → (p : ℕ) → parent_by steps g ≡ Some p → n + k < p
label_late n steps zero f g h e p parent = omega (arith, (parent_above n steps g p h parent).1)
label_late n [] (suc k) f g h e p parent = absurd cc
label_late n (s ∷ steps) (suc k) f g h e p parent =
    let next = relabel s f in
    let same : label_up (n + 1) steps k next ≡ g = sym (label_front n s steps k f h.0) ∙ e in
    let unmerged : merges s g ≡ false = elim (label_made (n + 1) steps k next h.1) [
      | inl i ↦ ap (merges s) (sym same ∙ i) ∙ relabelled_unmerged n s f h.0
      | inr lt ↦ unmerged_above n s g h.0 (omega (arith, lt, same))
    ] in
    omega (arith, label_late (n + 1) steps k next g h.1 same p (sym (parent_left s steps g unmerged) ∙ parent))
