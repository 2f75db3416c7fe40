-- The points so far have the step.
use Rattle.std.proofs.Common.{◌≡◌, ℕ, All, take, if◌then◌else◌}
use Rattle.std.specs.List.{list_any}
use Rattle.tgap_model.specs.declared.geometry.Point.{Point}
use Rattle.tgap_model.specs.Base.{same_point}
use Rattle.edge_forest.specs.Removed.{step_of}
use Rattle.edge_forest.proofs.removed.Removed.note_all.Given as goal

abbrev pub invariant-loop-removal : goal.invariant-loop-removal
invariant-loop-removal l = record {
  points : l.self.points ≡ l.initial.self.points;
  steps : (k : ℕ) → All (λ r. r.step ≡ k) l.removals → (p : Point)
      → step_of l.self p ≡ (if list_any (λ r. same_point r.point p) (take l.removal-index l.removals) then k else step_of l.initial.self p);
}
