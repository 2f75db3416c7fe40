-- What is summed so far, with the sum of the rest, is the whole.
use Rattle.std.proofs.Common.{◌≡◌, ◌≤◌, ◌*◌, ◌+ℤ◌, List, unsigned_abs, drop}
use Rattle.tgap_model.specs.declared.geometry.Point.{Point}
use Rattle.tgap_model.specs.Bounds.{max_arc_area}
use Rattle.ring_walk.specs.Areas.{ring_area}
use Rattle.topo_write.specs.Building.{AreSums}
use Rattle.topo_write.proofs.areas.ring_area.Given as goal

abbrev pub invariant-loop-side : goal.invariant-loop-side
invariant-loop-side l = record {
  value : (lines : List (List Point)) → AreSums lines l.sums → l.area +ℤ ring_area lines (drop l.side-index l.ring) ≡ ring_area lines l.ring;
  size : unsigned_abs l.area ≤ l.side-index * max_arc_area;
}
