-- The edges and their ends are as they have to be.
use Rattle.session.proofs.Topologies.{have_ends}
use Rattle.session.proofs.topology.exported.Goals as goal

pub topo_of-requires : goal.topo_of-requires
topo_of-requires c = have_ends c.args.slice.now.edges c.args.ends.now c.requires
