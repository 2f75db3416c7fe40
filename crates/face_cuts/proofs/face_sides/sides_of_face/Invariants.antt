use Rattle.std.proofs.Common.{◌≡◌, ◌≤◌, ◌==◌, map, filter, take}
use Rattle.face_cuts.specs.declared.face_sides.FaceSide.{FaceSide}
use Rattle.face_cuts.proofs.face_sides.sides_of_face.Given as goal

-- those of the rows so far
abbrev pub invariant-loop-place : goal.invariant-loop-place
invariant-loop-place l = record {
  reached : l.first ≤ l.place;
  found : l.found.items ≡ map (λ (row : FaceSide). row.side) (filter (λ row. row.face == l.face) (take l.place l.rows));
}
