use Rattle.std.proofs.Common.{◌≡◌, map, take}
use Rattle.face_cuts.specs.Columns.{span_box}
use Rattle.face_cuts.proofs.columns.boxes_of.Given as goal

abbrev pub invariant-loop-segment : goal.invariant-loop-segment
invariant-loop-segment l = l.boxes ≡ map span_box (take l.segment-index l.segments)
