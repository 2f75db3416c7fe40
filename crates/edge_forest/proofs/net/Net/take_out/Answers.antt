use Rattle.std.proofs.Common.{arith}
use Rattle.edge_forest.proofs.Nets.{first_counted, last_counted_by, out_net_by}
use Rattle.edge_forest.proofs.net.Net.take_out.Goals as goal

pub index_mut-requires-2 : goal.index_mut-requires-2
index_mut-requires-2 c = omega (arith, (c.requires.net.first c.args.key c.args.row c.requires.row).0, c.args.self.now.ends.ok.0)

pub index_mut-requires-3 : goal.index_mut-requires-3
index_mut-requires-3 c = omega (arith, (c.requires.net.last c.args.key c.args.row c.requires.row).0, c.args.self.now.ends.ok.0)

pub lower-requires : goal.lower-requires
lower-requires c = rw (c.at.ensures) (first_counted c.args.nodes.now _ _ _ c.requires.net c.args.key c.args.row c.requires.row)

pub lower-requires-2 : goal.lower-requires-2
lower-requires-2 c =
    last_counted_by c.args.nodes.now _ _ _ c.requires.net c.args.key c.args.row c.requires.row _ _ _ c.at.ensures c.lower.ensures c.at-2.ensures

pub returns-clause-net : goal.returns-clause-net
returns-clause-net c =
    out_net_by c.args.nodes.now _ _ _ c.requires.net c.args.key c.args.row c.requires.row _ _ _ _ c.at.ensures c.lower.ensures c.at-2.ensures c.lower-2.ensures
