-- the points so far are within the limits
use Rattle.std.proofs.Common.{All}
use Rattle.tgap_model.specs.Bounds.{IsNear}
use Rattle.topo_write_tests.proofs.made.points_of.Given as goal

abbrev pub invariant-loop-x : goal.invariant-loop-x
invariant-loop-x l = All IsNear l.points
