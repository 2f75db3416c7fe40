-- The row is that of the net.
use Rattle.std.proofs.Common.{arith, sym, ◌∙◌, ◌≡◌, Some, refl}
use Rattle.edge_forest.specs.Net.{row_at}
use Rattle.edge_forest.specs.Growth.{relabel_row}
use Rattle.edge_forest.proofs.SettledKeys.{relabelled_net}
use Rattle.edge_forest.proofs.settle.settle_key.Goals as goal

pub at-requires : goal.at-requires
at-requires c =
    let net = c.requires.net in
    let read : row_at c.args.growth.now.net.rows.items c.args.key ≡ Some c.in-Some.row = sym c.row_at.ensures ∙ c.in-Some.is in
    omega (arith, (net.first c.args.key c.in-Some.row read).0, net.nodes_count)

pub at-requires-then-is_between : goal.at-requires-then-is_between
at-requires-then-is_between c =
    let net = c.requires.net in
    let read : row_at c.args.growth.now.net.rows.items c.args.key ≡ Some c.in-Some.row = sym c.row_at.ensures ∙ c.in-Some.is in
    omega (arith, (net.last c.args.key c.in-Some.row read).0, net.nodes_count)

pub returns-else-is_between-clause-net : goal.returns-else-is_between-clause-net
returns-else-is_between-clause-net c =
    let growth = c.args.growth.now in
    let read : row_at growth.net.rows.items c.args.key ≡ Some c.in-Some.row = sym c.row_at.ensures ∙ c.in-Some.is in
    rw (c.relabel.ensures.rows, c.relabel.ensures.ends, c.relabel.ensures.counts)
    (relabelled_net growth.nodes growth.net.rows.items growth.net.ends.items growth.net.counts.items c.requires.net c.args.key c.in-Some.row
    (relabel_row c.args.sides c.in-Some.row) read refl refl)
