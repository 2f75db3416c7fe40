-- The areas of the faces after a step: the new face has those of the loser and the winner, and each other face keeps its own.
use Rattle.std.proofs.Common.{◌≡◌, ◌≢◌, ◌≤◌, ◌⊎◌, inl, inr, ℕ, ◌+◌, true, ◌||◌, ◌==◌, ℤ, pos, ◌+ℤ◌, ◌-ℤ◌, List, [], ◌∷◌, map, fold, cond, refl, sym, ◌∙◌, ap, subst, arith, eq-eqb, ne_eqb}
use Rattle.std.specs.List.{AllByRecursion, list_any}
use Rattle.std.proofs.lemmas.Int.{ints}
use Rattle.std.proofs.lemmas.Bool.{or_cases, cond-true, cond-false, cases_eq}
use Rattle.std.proofs.lemmas.Bool.Decides.{nat_tests}
use Rattle.tgap_model.specs.declared.merge.LabelledArc.{LabelledArc}
use Rattle.tgap_model.specs.declared.merge.MergeStep.{MergeStep}
use Rattle.tgap_model.specs.History.{relabel, relabel_arc, area_part, area_of, is_between, IsNumberedStep}
use Rattle.face_merge.specs.Merging.{IsLabelled}
use Rattle.face_merge.proofs.Neighbours.{between_labels}

-- ---- one label

-- the loser and the winner become the new face
pub to_made : (l w m f : ℕ) → (f ≡ l) ⊎ (f ≡ w) → cond ((f == l) || (f == w)) m f ≡ m
to_made l w m f (inl e) = grind (arith, nat_tests)
to_made l w m f (inr e) = grind (arith, nat_tests)

-- each other label stays
pub to_itself : (l w m f : ℕ) → f ≢ l → f ≢ w → cond ((f == l) || (f == w)) m f ≡ f
to_itself l w m f a b = grind (arith, nat_tests)

-- what an arc gives to a face by the label at one side
abbrev share : ℤ → ℕ → ℕ → ℤ
share z g f = cond (g == f) z (pos 0)

-- it gives all of it to that label's face, and nothing to another
share_own : (z : ℤ) (g f : ℕ) → g ≡ f → share z g f ≡ z
share_own z g f e = cond-true (g == f) z (pos 0) (eq-eqb g f e)

share_none : (z : ℤ) (g f : ℕ) → g ≢ f → share z g f ≡ pos 0
share_none z g f n = cond-false (g == f) z (pos 0) (ne_eqb g f n)

-- by a label, the new face gets what the loser and the winner got
share_made : (n l w m g : ℕ) (z : ℤ) → l ≢ w → m ≡ n + 1 → g ≤ n → share z (cond ((g == l) || (g == w)) m g) m ≡ share z g l +ℤ share z g w
share_made n l w m g z differ made below = chosen (cases_eq g l) (cases_eq g w)
  where
    chosen : (g ≡ l) ⊎ (g ≡ l → ⊥) → (g ≡ w) ⊎ (g ≡ w → ⊥) → share z (cond ((g == l) || (g == w)) m g) m ≡ share z g l +ℤ share z g w
    chosen (inl a) (inl b) = absurd (differ (sym a ∙ b))
    chosen (inl a) (inr b) =
        let own = share_own z (cond ((g == l) || (g == w)) m g) m (to_made l w m g (inl a)) in
        omega (arith, ints, own, share_own z g l a, share_none z g w b)
    chosen (inr a) (inl b) =
        let own = share_own z (cond ((g == l) || (g == w)) m g) m (to_made l w m g (inr b)) in
        omega (arith, ints, own, share_none z g l a, share_own z g w b)
    chosen (inr a) (inr b) =
        let kept = to_itself l w m g a b in
        let other : cond ((g == l) || (g == w)) m g ≢ m = λ e. omega (arith, kept) in
        omega (arith, ints, share_none z (cond ((g == l) || (g == w)) m g) m other, share_none z g l a, share_none z g w b)

-- a label is any other face after the step where it was this face before
pub kept_before : (l w m f g : ℕ) → f ≢ l → f ≢ w → f ≢ m → (cond ((g == l) || (g == w)) m g == f) ≡ (g == f)
kept_before l w m f g a b d = grind (arith, nat_tests)

-- ---- one arc

-- what it gives to the new face it gave to the loser and the winner
part_made : (n : ℕ) (s : MergeStep) (a : LabelledArc) → IsNumberedStep n s → IsLabelled n a
    → area_part s.made (relabel_arc s a) ≡ area_part s.loser a +ℤ area_part s.winner a
part_made n s a step labels =
    joined (share a.area (relabel s a.left) s.made) (share a.area (relabel s a.right) s.made)
    (share a.area a.left s.loser) (share a.area a.left s.winner) (share a.area a.right s.loser) (share a.area a.right s.winner)
    (share_made n s.loser s.winner s.made a.left a.area step.differ step.made labels.left)
    (share_made n s.loser s.winner s.made a.right a.area step.differ step.made labels.right)
  where
    joined : (x y p q u v : ℤ) → x ≡ p +ℤ q → y ≡ u +ℤ v → x -ℤ y ≡ (p -ℤ u) +ℤ (q -ℤ v)
    joined x y p q u v d e = omega (arith, ints)

-- what it gives to any other face it gave to it before
part_kept : (s : MergeStep) (f : ℕ) (a : LabelledArc) → f ≢ s.loser → f ≢ s.winner → f ≢ s.made → area_part f (relabel_arc s a) ≡ area_part f a
part_kept s f a l w m =
    rw (kept_before s.loser s.winner s.made f a.left l w m, kept_before s.loser s.winner s.made f a.right l w m) refl

-- ---- all arcs

-- the sum over the arcs that is the area of the new face, from any two sums on
sum_made : (n : ℕ) (s : MergeStep) (x y z : ℤ) (arcs : List LabelledArc) → IsNumberedStep n s → AllByRecursion (IsLabelled n) arcs → z ≡ x +ℤ y
    → fold (λ sum a. sum +ℤ area_part s.made a) z (map (relabel_arc s) arcs)
    ≡ fold (λ sum a. sum +ℤ area_part s.loser a) x arcs +ℤ fold (λ sum a. sum +ℤ area_part s.winner a) y arcs
sum_made n s x y z [] step labels e = e
sum_made n s x y z (a ∷ arcs) step labels e =
    sum_made n s (x +ℤ area_part s.loser a) (y +ℤ area_part s.winner a) (z +ℤ area_part s.made (relabel_arc s a)) arcs step labels.1
    (joined x y z (area_part s.loser a) (area_part s.winner a) (area_part s.made (relabel_arc s a)) e (part_made n s a step labels.0))
  where
    joined : (x y z p q r : ℤ) → z ≡ x +ℤ y → r ≡ p +ℤ q → z +ℤ r ≡ (x +ℤ p) +ℤ (y +ℤ q)
    joined x y z p q r d e = omega (arith, ints)

-- the sum that is the area of another face, from any sum on
sum_kept : (s : MergeStep) (f : ℕ) (z : ℤ) (arcs : List LabelledArc) → f ≢ s.loser → f ≢ s.winner → f ≢ s.made
    → fold (λ sum a. sum +ℤ area_part f a) z (map (relabel_arc s) arcs) ≡ fold (λ sum a. sum +ℤ area_part f a) z arcs
sum_kept s f z [] l w m = refl
sum_kept s f z (a ∷ arcs) l w m =
    ap (λ (y : ℤ). fold (λ sum b. sum +ℤ area_part f b) (z +ℤ y) (map (relabel_arc s) arcs)) (part_kept s f a l w m)
    ∙ sum_kept s f (z +ℤ area_part f a) arcs l w m

-- the area of the new face is those of the loser and the winner together
pub area_made : (n : ℕ) (s : MergeStep) (arcs : List LabelledArc) → IsNumberedStep n s → AllByRecursion (IsLabelled n) arcs
    → area_of (map (relabel_arc s) arcs) s.made ≡ area_of arcs s.loser +ℤ area_of arcs s.winner
area_made n s arcs step labels = sum_made n s (pos 0) (pos 0) (pos 0) arcs step labels (omega (arith, ints))

-- that of each other face is as it was
pub area_kept : (s : MergeStep) (f : ℕ) (arcs : List LabelledArc) → f ≢ s.loser → f ≢ s.winner → f ≢ s.made
    → area_of (map (relabel_arc s) arcs) f ≡ area_of arcs f
area_kept s f arcs l w m = sum_kept s f (pos 0) arcs l w m

-- what holds of both labels of each arc holds of two faces with an arc between them
pub between_have : (P : ℕ → Type 0) (f g : ℕ) (arcs : List LabelledArc) → AllByRecursion (λ a. P a.left × P a.right) arcs
    → list_any (is_between f g) arcs ≡ true → P f × P g
between_have P f g [] each e = absurd cc
between_have P f g (a ∷ arcs) each e =
    elim (or_cases (is_between f g a) _ e) [
      | inl here ↦ at_labels (between_labels f g a.left a.right here)
      | inr later ↦ between_have P f g arcs each.1 later
    ]
  where
    at_labels : ((a.left ≡ f) × (a.right ≡ g)) ⊎ ((a.left ≡ g) × (a.right ≡ f)) → P f × P g
    at_labels (inl e) = (subst P e.0 each.0.0, subst P e.1 each.0.1)
    at_labels (inr e) = (subst P e.1 each.0.1, subst P e.0 each.0.0)
