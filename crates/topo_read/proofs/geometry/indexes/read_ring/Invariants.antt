use Rattle.line_forms.specs.Json.{whole_of}
use Rattle.topo_read.proofs.Indexes.{IsReadTo}
use Rattle.topo_read.proofs.geometry.indexes.read_ring.Given as goal

abbrev pub invariant-loop-item : goal.invariant-loop-item
invariant-loop-item l = IsReadTo whole_of l.indexes l.item-index l.items
