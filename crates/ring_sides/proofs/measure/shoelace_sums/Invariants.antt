use Rattle.std.proofs.Common.{◌≡◌, map, take}
use Rattle.tgap_model.specs.Point.{shoelace}
use Rattle.ring_sides.proofs.measure.shoelace_sums.Given as goal

abbrev pub invariant-loop-arc : goal.invariant-loop-arc
invariant-loop-arc l = l.sums.items ≡ map shoelace (take l.arc-index l.arcs)
