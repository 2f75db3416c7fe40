use Rattle.topo_laws.proofs.ReadTree.{trees_are_read}
use Rattle.topo_laws.proofs.reading.trees_are_read.Goals as goal

pub returns : goal.returns
returns c = trees_are_read
