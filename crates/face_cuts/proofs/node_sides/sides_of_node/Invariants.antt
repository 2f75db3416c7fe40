use Rattle.std.proofs.Common.{◌≡◌, ◌≤◌, map, filter, take}
use Rattle.tgap_model.specs.Base.{same_point}
use Rattle.face_cuts.specs.declared.node_sides.NodeSide.{NodeSide}
use Rattle.face_cuts.proofs.node_sides.sides_of_node.Given as goal

-- those of the rows so far
abbrev pub invariant-loop-place : goal.invariant-loop-place
invariant-loop-place l = record {
  reached : l.first ≤ l.place;
  found : l.found.items ≡ map (λ (row : NodeSide). row.side) (filter (λ row. same_point row.node l.node) (take l.place l.rows));
}
