-- What is summed so far, with the sum of the rest, is the whole.
use Rattle.std.proofs.Common.{◌≡◌, ◌≤◌, ◌+◌, ◌*◌, ◌+ℤ◌, unsigned_abs, drop}
use Rattle.tgap_model.specs.Bounds.{max_arc_area}
use Rattle.ring_walk.specs.Areas.{ring_area}
use Rattle.face_cuts.specs.Cuts.{lines_of, new_area}
use Rattle.face_cuts.proofs.new_ring.new_area.Given as goal

abbrev pub invariant-loop-side : goal.invariant-loop-side
invariant-loop-side g l = record {
  value : l.area +ℤ ring_area (lines_of (g.T.ArcTable.arcs l.table)) (drop l.side-index l.walk) ≡ new_area (lines_of (g.T.ArcTable.arcs l.table)) l.points l.walk;
  size : unsigned_abs l.area ≤ (l.side-index + 1) * max_arc_area;
}
