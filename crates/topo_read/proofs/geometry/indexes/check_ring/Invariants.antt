use Rattle.topo_read.proofs.Indexes.{IsCheckedTo}
use Rattle.topo_read.proofs.geometry.indexes.check_ring.Given as goal

abbrev pub invariant-loop-place : goal.invariant-loop-place
invariant-loop-place l = IsCheckedTo l.arcs l.ring l.indexes l.place
