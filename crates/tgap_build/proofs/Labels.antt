-- The label after some steps of a label after fewer is the label of the face.
use Rattle.std.proofs.Common.{◌≡◌, ◌≤◌, ◌-◌, inl, inr, ℕ, zero, suc, ◌+◌, false, List, [], ◌∷◌, take, drop, Some, refl, sym, ap, ◌∙◌, arith}
use Rattle.std.proofs.Math.Seq.{take-nil, drop-nil}
use Rattle.tgap_model.specs.declared.merge.MergeStep.{MergeStep}
use Rattle.tgap_model.specs.History.{relabel, label_after, AreNumbered}
use Rattle.face_tree.specs.Tree.{merges, parent_by}
use Rattle.face_tree.proofs.Ways.{label_up, merges_or_leaves, relabel_unmerged, label_front, label_late}

-- the first step does not merge a label after more steps
label_unmerged : (n : ℕ) (s : MergeStep) (steps : List MergeStep) (j f : ℕ) → AreNumbered n (s ∷ steps)
    → merges s (label_up n (s ∷ steps) (suc j) f) ≡ false
label_unmerged n s steps j f h = elim (merges_or_leaves s (label_up n (s ∷ steps) (suc j) f)) [
  | inl m ↦
      let made : parent_by (s ∷ steps) (label_up n (s ∷ steps) (suc j) f) ≡ Some s.made = rw m refl in
      absurd (omega (arith, label_late n (s ∷ steps) (suc j) f (label_up n (s ∷ steps) (suc j) f) h refl s.made made, h.0.made))
  | inr m ↦ m
]

-- without steps each face is its own label
label_none : (n : ℕ) (steps : List MergeStep) (f : ℕ) → label_up n steps 0 f ≡ f
label_none n steps f = ap (λ (none : List MergeStep). label_after none f) (drop-nil (f - n))

label_empty : (n k f : ℕ) → label_up n [] k f ≡ f
label_empty n k f =
    ap (λ (none : List MergeStep). label_after (drop (f - n) none) f) (take-nil k)
    ∙ ap (λ (none : List MergeStep). label_after none f) (drop-nil (f - n))

-- the label after k steps of the label after j of them
label_twice : (n : ℕ) (steps : List MergeStep) (j k f : ℕ) → AreNumbered n steps → j ≤ k
    → label_up n steps k (label_up n steps j f) ≡ label_up n steps k f
label_twice n steps zero k f h le = ap (label_up n steps k) (label_none n steps f)
label_twice n [] (suc j) k f h le = ap (label_up n [] k) (label_empty n (suc j) f)
label_twice n (s ∷ steps) (suc j) zero f h le = absurd (omega arith)
label_twice n (s ∷ steps) (suc j) (suc k) f h le =
    let label : ℕ = label_up n (s ∷ steps) (suc j) f in
    label_front n s steps k label h.0
    ∙ (ap (label_up (n + 1) steps k) (relabel_unmerged s label (label_unmerged n s steps j f h) ∙ label_front n s steps j f h.0)
    ∙ (label_twice (n + 1) steps j k (relabel s f) h.1 (omega arith) ∙ sym (label_front n s steps k f h.0)))

-- a face of the base map begins as itself
up_base : (n : ℕ) (steps : List MergeStep) (k f : ℕ) → f ≤ n → label_after (take k steps) f ≡ label_up n steps k f
up_base n steps k f le =
    let e : 0 ≡ f - n = omega arith in
    ap (λ (j : ℕ). label_after (drop j (take k steps)) f) e

-- first the steps up to j, then those up to k
pub label_of_label : (n : ℕ) (steps : List MergeStep) (j k f : ℕ) → AreNumbered n steps → j ≤ k → f ≤ n
    → label_up n steps k (label_after (take j steps) f) ≡ label_after (take k steps) f
label_of_label n steps j k f h le base =
    ap (label_up n steps k) (up_base n steps j f base) ∙ (label_twice n steps j k f h le ∙ sym (up_base n steps k f base))
