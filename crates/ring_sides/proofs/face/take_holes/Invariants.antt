-- What the holes so far took, with what the rest takes, is what all take.
use Rattle.std.proofs.Common.{◌≡◌, drop}
use Rattle.topology_forms.specs.Rings.{holes_taken}
use Rattle.ring_sides.specs.Taking.{KeepsForm}
use Rattle.ring_sides.proofs.face.take_holes.Given as goal

abbrev pub invariant-loop-hole : goal.invariant-loop-hole
invariant-loop-hole l = record {
  taken : holes_taken l.arcs l.face l.number (drop l.hole-index l.holes) l.taken ≡ holes_taken l.arcs l.face l.first l.holes l.fn.taken;
  form : KeepsForm l.fn.taken l.taken;
}
