use Rattle.std.proofs.Common.{◌≡◌, map}
use Rattle.std.specs.List.{range_with_len}
use Rattle.ring_walk.specs.Sides.{numbered}
use Rattle.face_cuts.specs.NodeTables.{face_side}
use Rattle.face_cuts.proofs.face_sides.sides_by_face.Given as goal

-- the sides so far
abbrev pub invariant-loop-number : goal.invariant-loop-number
invariant-loop-number l = l.rows.items ≡ map (face_side l.spans) (map numbered (range_with_len 0 l.number))
