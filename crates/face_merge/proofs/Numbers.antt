-- What a map keeps while it is merged: each number fits, each label is one of its faces, and new faces are numbered in order.
use Rattle.std.proofs.Common.{◌≡◌, ◌≢◌, ◌<◌, ◌≤◌, ◌⊎◌, inl, inr, ℕ, ◌+◌, ◌-◌, true, ◌||◌, ◌==◌, List, [], ◌∷◌, length, map, cond, subst, arith}
use Rattle.std.specs.List.{All, AllByRecursion, list_any}
use Rattle.std.proofs.lemmas.Bool.{or_cases, and_parts}
use Rattle.std.proofs.lemmas.Bool.Decides.{nat_tests}
use Rattle.std.proofs.lemmas.List.{length-map, length_push}
use Rattle.std.proofs.lemmas.List.Elements.{recursion_from_All, All-push, All-map, All-weaker, All-get_or}
use Rattle.lemmas.proofs.Counts.{sum_by-map}
use Rattle.tgap_model.specs.declared.base.Rules.{Rules}
use Rattle.tgap_model.specs.declared.merge.MergeStep.{MergeStep}
use Rattle.tgap_model.specs.declared.merge.LabelledArc.{LabelledArc}
use Rattle.tgap_model.specs.History.{is_between, class_of, relabel_arc, classes_after, IsNextStep, AreSteps, AreNumbered, IsNumberedStep}
use Rattle.face_merge.specs.Measures.{IsMeasured, total_length}
use Rattle.face_merge.specs.Merging.{MergeState, IsLabelled, IsMerging, after}
use Rattle.face_merge.proofs.Neighbours.{is_pair, between_labels}
use Rattle.face_merge.proofs.Steps.{step_less}

-- the labels of an arc of the map are its faces
pub any_labels : (n f g : ℕ) (arcs : List LabelledArc) → AllByRecursion (IsLabelled n) arcs → list_any (is_between f g) arcs ≡ true → (f ≤ n) × (g ≤ n)
any_labels n f g [] all e = absurd cc
any_labels n f g (a ∷ arcs) all e =
    elim (or_cases (is_between f g a) _ e) [
      | inl here ↦ at_labels (between_labels f g a.left a.right here)
      | inr later ↦ any_labels n f g arcs all.1 later
    ]
  where
    at_labels : ((a.left ≡ f) × (a.right ≡ g)) ⊎ ((a.left ≡ g) × (a.right ≡ f)) → (f ≤ n) × (g ≤ n)
    at_labels (inl e) = (omega (arith, all.0.left), omega (arith, all.0.right))
    at_labels (inr e) = (omega (arith, all.0.right), omega (arith, all.0.left))

-- what it is to be a pair
pair_parts : (f g : ℕ) → is_pair f g ≡ true → (0 < f) × (0 < g) × (f ≢ g)
pair_parts f g e = (grind (arith, nat_tests), grind (arith, nat_tests), grind (arith, nat_tests))

-- the next step merges two different faces of the map
pub next_step_numbered : (rules : Rules) (classes : List ℕ) (arcs : List LabelledArc) (s : MergeStep) → All (IsLabelled (length classes)) arcs → IsNextStep rules classes arcs s
    → IsNumberedStep (length classes) s
next_step_numbered rules classes arcs s labels step =
    let parts = and_parts (is_pair s.loser s.winner) _ step.neighbours in
    let pair = pair_parts s.loser s.winner parts.0 in
    let within = any_labels (length classes) s.loser s.winner arcs (recursion_from_All (IsLabelled (length classes)) arcs labels) parts.1 in
    record { loser = (pair.0, within.0); winner = (pair.1, within.1); differ = pair.2; made = step.made }

-- a label after a step
relabelled_label : (n l w m f : ℕ) → f ≤ n → m ≡ n + 1 → cond ((f == l) || (f == w)) m f ≤ n + 1
relabelled_label n l w m f p q = grind (arith, nat_tests)

-- an arc after a step
relabelled_arc : (n : ℕ) (s : MergeStep) → s.made ≡ n + 1 → (a : LabelledArc) → IsLabelled n a → IsLabelled (n + 1) (relabel_arc s a)
relabelled_arc n s made a p = record {
  left = relabelled_label n s.loser s.winner s.made a.left p.left made;
  right = relabelled_label n s.loser s.winner s.made a.right p.right made;
}

-- the labels after a step
pub labels_after : (classes : List ℕ) (arcs : List LabelledArc) (s : MergeStep) → s.made ≡ length classes + 1 → All (IsLabelled (length classes)) arcs
    → All (IsLabelled (length (classes_after s classes))) (map (relabel_arc s) arcs)
labels_after classes arcs s made labels =
    rw (length_push classes (class_of classes s.winner))
    (All-map (IsLabelled (length classes + 1)) (relabel_arc s) arcs (All-weaker _ (λ a. IsLabelled (length classes + 1) (relabel_arc s a)) (relabelled_arc (length classes) s made) arcs labels))

-- the steps of a history are numbered in order
pub steps_numbered : (rules : Rules) (classes : List ℕ) (arcs : List LabelledArc) (steps : List MergeStep) → All (IsLabelled (length classes)) arcs → AreSteps rules classes arcs steps
    → AreNumbered (length classes) steps
steps_numbered rules classes arcs [] labels p = tt
steps_numbered rules classes arcs (s ∷ steps) labels p =
    let rest = steps_numbered rules (classes_after s classes) (map (relabel_arc s) arcs) steps (labels_after classes arcs s p.0.made labels) p.1 in
    (next_step_numbered rules classes arcs s labels p.0, subst (λ (n : ℕ). AreNumbered n steps) (length_push classes (class_of classes s.winner)) rest)

-- the arcs are as long after a step
total_after : (s : MergeStep) (arcs : List LabelledArc) → total_length (map (relabel_arc s) arcs) ≡ total_length arcs
total_after s arcs = sum_by-map (λ a. a.extent) (relabel_arc s) arcs

-- what is known of a map while it is merged stays so at a step
pub merging_after : (m : MergeState) (s : MergeStep) → IsMerging m → IsNextStep m.rules m.classes m.arcs s → IsMerging (after s m)
merging_after m s known step =
    let numbered = next_step_numbered m.rules m.classes m.arcs s known.labelled step in
    let below : s.winner - 1 < length m.classes = omega (arith, numbered.winner.0, numbered.winner.1) in
    record {
      rules_hold = known.rules_hold;
      classed = All-push (λ k. k < length m.rules.weights) m.classes (class_of m.classes s.winner) known.classed
          (All-get_or (λ k. k < length m.rules.weights) m.classes (s.winner - 1) 0 below known.classed);
      labelled = labels_after m.classes m.arcs s step.made known.labelled;
      measured = All-map IsMeasured (relabel_arc s) m.arcs
          (All-weaker IsMeasured (λ a. IsMeasured (relabel_arc s a)) (λ a p. record { area = p.area; extent = p.extent }) m.arcs known.measured);
      few_arcs = omega (arith, known.few_arcs, length-map m.arcs (relabel_arc s));
      short = omega (arith, known.short, total_after s m.arcs);
      few_faces = omega (arith, known.few_faces, length_push m.classes (class_of m.classes s.winner), step_less s m.arcs step.neighbours);
    }
