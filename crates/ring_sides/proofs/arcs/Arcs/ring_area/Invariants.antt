-- What is summed so far, with the sum of the rest, is the whole.
use Rattle.std.proofs.Common.{◌≡◌, ◌≤◌, ◌*◌, ◌+ℤ◌, unsigned_abs, drop}
use Rattle.topology_forms.specs.Rings.{ring_area}
use Rattle.tgap_model.specs.Bounds.{max_arc_area}
use Rattle.ring_sides.proofs.arcs.Arcs.ring_area.Given as goal

abbrev pub invariant-loop-index : goal.invariant-loop-index
invariant-loop-index l = record {
  value : l.area +ℤ ring_area l.self (drop l.index-index l.ring) ≡ ring_area l.self l.ring;
  size : unsigned_abs l.area ≤ l.index-index * max_arc_area;
}
