use Rattle.std.proofs.Common.{arith}
use Rattle.edge_forest.proofs.Nets.{first_small_by, next_small_by, in_net_by}
use Rattle.edge_forest.proofs.net.Net.put.Goals as goal

pub raise-requires-clause-small : goal.raise-requires-clause-small
raise-requires-clause-small c =
    omega (
      arith,
      first_small_by c.args.nodes.now _ _ _ c.requires.net c.args.key c.args.row c.requires.key c.requires.free c.requires.first.0 c.requires.first.1
          c.requires.last.0 c.requires.last.1 c.requires.apart _ c.at.ensures,
      c.requires.small,
    )

pub raise-requires-2-clause-small : goal.raise-requires-2-clause-small
raise-requires-2-clause-small c =
    omega (
      arith,
      next_small_by c.args.nodes.now _ _ _ c.requires.net c.args.key c.args.row c.requires.key c.requires.free c.requires.first.0 c.requires.first.1
          c.requires.last.0 c.requires.last.1 c.requires.apart _ _ _ c.at.ensures c.raise.ensures c.at-2.ensures,
      c.requires.small,
    )

pub returns-clause-net : goal.returns-clause-net
returns-clause-net c =
    in_net_by c.args.nodes.now _ _ _ c.requires.net c.args.key c.args.row c.requires.key c.requires.free c.requires.first.0 c.requires.first.1
    c.requires.last.0 c.requires.last.1 c.requires.apart _ _ _ _ c.at.ensures c.raise.ensures c.at-2.ensures c.raise-2.ensures
