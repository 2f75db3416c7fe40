-- Numbered steps, and the labels that they give.
use Rattle.std.proofs.Common.{◌≡◌, ◌≢◌, ℕ, zero, suc, ◌+◌, ◌<◌, ◌≤◌, ◌==◌, ◌||◌, cond, List, [], ◌∷◌, ◌++◌, length, take, get_or, eq-eqb, ne_eqb, refl, ap, ◌∙◌, subst, arith}
use Rattle.std.proofs.Math.Bool.{or-true}
use Rattle.std.proofs.Math.Seq.{take-suc}
use Rattle.std.proofs.lemmas.Bool.Decides.{nat_tests}
use Rattle.tgap_model.specs.declared.merge.MergeStep.{MergeStep}
use Rattle.tgap_model.specs.History.{relabel, label_after, AreNumbered, IsNumberedStep}

-- the step at a place of numbered steps
pub numbered_at : (n : ℕ) (steps : List MergeStep) (i : ℕ) (d : MergeStep) → AreNumbered n steps → i < length steps → IsNumberedStep (n + i) (get_or steps i d)
numbered_at n [] i d h lt = absurd (omega arith)
numbered_at n (s ∷ steps) zero d h lt = let e : n ≡ n + 0 = omega arith in subst (λ m. IsNumberedStep m s) e h.0
numbered_at n (s ∷ steps) (suc i) d h lt =
    let e : n + 1 + i ≡ n + suc i = omega arith in
    subst (λ m. IsNumberedStep m (get_or steps i d)) e (numbered_at (n + 1) steps i d h.1 (omega arith))

-- a step gives its loser and its winner the new number, and leaves the other labels
pub relabel_loser : (s : MergeStep) (f : ℕ) → f ≡ s.loser → relabel s f ≡ s.made
relabel_loser s f e = rw (eq-eqb f s.loser e) refl

pub relabel_winner : (s : MergeStep) (f : ℕ) → f ≡ s.winner → relabel s f ≡ s.made
relabel_winner s f e = rw (eq-eqb f s.winner e, or-true (f == s.loser)) refl

pub relabel_other : (s : MergeStep) (f : ℕ) → f ≢ s.loser → f ≢ s.winner → relabel s f ≡ f
relabel_other s f p q = rw (ne_eqb f s.loser p, ne_eqb f s.winner q) refl

-- the label after one more step
label_append : (steps : List MergeStep) (s : MergeStep) (f : ℕ) → label_after (steps ++ s ∷ []) f ≡ relabel s (label_after steps f)
label_append [] s f = refl
label_append (t ∷ steps) s f = label_append steps s (relabel t f)

pub label_next : (steps : List MergeStep) (i : ℕ) (d : MergeStep) (f : ℕ) → i < length steps → label_after (take (suc i) steps) f ≡ relabel (get_or steps i d) (label_after (take i steps) f)
label_next steps i d f lt = ap (λ (ss : List MergeStep). label_after ss f) (take-suc steps i d lt) ∙ label_append (take i steps) (get_or steps i d) f

-- a label after a step
relabel_bounded : (n l w m f : ℕ) → f ≤ n → m ≡ n + 1 → cond ((f == l) || (f == w)) m f ≤ n + 1
relabel_bounded n l w m f p q = grind (arith, nat_tests)

-- after i steps each label is one of the faces so far
pub label_bounded : (n : ℕ) (steps : List MergeStep) (i f : ℕ) → AreNumbered n steps → i ≤ length steps → f ≤ n → label_after (take i steps) f ≤ n + i
label_bounded n steps zero f h le p = omega arith
label_bounded n [] (suc i) f h le p = absurd (omega arith)
label_bounded n (s ∷ steps) (suc i) f h le p =
    let first = relabel_bounded n s.loser s.winner s.made f p h.0.made in
    let rest = label_bounded (n + 1) steps i (relabel s f) h.1 (omega arith) first in
    omega arith
