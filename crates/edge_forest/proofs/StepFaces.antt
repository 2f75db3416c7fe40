-- The loser and the winner of a step are faces at the sides of an arc.
use Rattle.std.proofs.Common.{◌≡◌, ◌⊎◌, inl, inr, ℕ, zero, suc, ◌<◌, ◌≤◌, true, List, [], ◌∷◌, map, length, take, get_or, subst, arith}
use Rattle.std.specs.Prelude.{IsTrue}
use Rattle.std.specs.List.{All, AllByRecursion, list_any}
use Rattle.std.proofs.lemmas.Bool.{or_cases, and_parts}
use Rattle.std.proofs.lemmas.List.Elements.{recursion_from_All, All-map, All-weaker}
use Rattle.tgap_model.specs.declared.base.Rules.{Rules}
use Rattle.tgap_model.specs.declared.merge.MergeStep.{MergeStep}
use Rattle.tgap_model.specs.declared.merge.LabelledArc.{LabelledArc}
use Rattle.tgap_model.specs.Base.{BaseMap, is_base}
use Rattle.tgap_model.specs.History.{label_after, labelled, is_between, relabel_arc, classes_after, history_of, AreSteps}
use Rattle.tgap_model.specs.Merged.{merged, label_at}
use Rattle.tgap_model.proofs.BaseFacts.{ArcFacts, base_facts, each_arc}
use Rattle.face_merge.proofs.Neighbours.{is_pair, between_labels}
use Rattle.face_merge.proofs.Steps.{history_is}

-- what holds of the faces at the sides of all arcs holds of two that have an arc between them
pub faces_between : (P : ℕ → Type 0) (f g : ℕ) (arcs : List LabelledArc) → AllByRecursion (λ a. P a.left × P a.right) arcs → list_any (is_between f g) arcs ≡ true → P f × P g
faces_between P f g [] all e = absurd cc
faces_between P f g (a ∷ arcs) all e =
    elim (or_cases (is_between f g a) _ e) [
      | inl here ↦ at_labels (between_labels f g a.left a.right here)
      | inr later ↦ faces_between P f g arcs all.1 later
    ]
  where
    at_labels : ((a.left ≡ f) × (a.right ≡ g)) ⊎ ((a.left ≡ g) × (a.right ≡ f)) → P f × P g
    at_labels (inl e) = (subst P e.0 all.0.0, subst P e.1 all.0.1)
    at_labels (inr e) = (subst P e.1 all.0.1, subst P e.0 all.0.0)

-- and of the loser and the winner of the step after the first k, where it holds of the faces of then
step_faces : (P : ℕ → Type 0) (rules : Rules) (classes : List ℕ) (arcs : List LabelledArc) (steps : List MergeStep) (k : ℕ) (d : MergeStep) → AreSteps rules classes arcs steps
    → k < length steps → All (λ a. P (label_after (take k steps) a.left) × P (label_after (take k steps) a.right)) arcs → P (get_or steps k d).loser × P (get_or steps k d).winner
step_faces P rules classes arcs [] k d p less all = absurd (omega arith)
step_faces P rules classes arcs (s ∷ steps) zero d p less all =
    faces_between P s.loser s.winner arcs (recursion_from_All (λ a. P a.left × P a.right) arcs all)
    (and_parts (is_pair s.loser s.winner) (list_any (is_between s.loser s.winner) arcs) p.0.neighbours).1
step_faces P rules classes arcs (s ∷ steps) (suc k) d p less all =
    step_faces P rules (classes_after s classes) (map (relabel_arc s) arcs) steps k d p.1 (omega arith)
    (All-map (λ a. P (label_after (take k steps) a.left) × P (label_after (take k steps) a.right)) (relabel_arc s) arcs all)

-- what holds of all faces that are there after k steps of a base map holds of the loser and the winner of the next one
pub step_sides : (m : BaseMap) → IsTrue (is_base m) → (P : ℕ → Type 0) (k : ℕ) (d : MergeStep) → k < length (history_of m)
    → ((f : ℕ) → f ≤ length m.classes → P (label_at (merged m) k f)) → P (get_or (history_of m) k d).loser × P (get_or (history_of m) k d).winner
step_sides m h P k d less each =
    step_faces P m.rules m.classes (map labelled m.arcs) (history_of m) k d (history_is m) less
    (All-map (λ a. P (label_at (merged m) k a.left) × P (label_at (merged m) k a.right)) labelled m.arcs
    (All-weaker (ArcFacts (length m.classes)) (λ a. P (label_at (merged m) k a.left) × P (label_at (merged m) k a.right)) (λ a known. (each a.left known.left, each a.right known.right)) m.arcs
    (each_arc m (base_facts m h))))
