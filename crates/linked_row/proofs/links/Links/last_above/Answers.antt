use Rattle.std.proofs.Common.{arith}
use Rattle.linked_row.specs.Linked.{aboves, belows}
use Rattle.linked_row.proofs.Entries.{above_read}
use Rattle.linked_row.proofs.Nodes.{opened}
use Rattle.linked_row.proofs.links.Links.last_above.Goals as goal

pub returns : goal.returns
returns c =
    let nodes = c.self.inside.nodes.items in
    let above = aboves nodes in
    let below = belows nodes in
    let l = c.args.self.now in
    let is = opened above below c.self.inside.len l c.self.invariant c.self.view_is in
    omega (arith, above_read nodes c.args.number c.index.result.now c.index.ensures, is.0.bound c.args.number c.index.result.now.above (omega (arith, c.requires, is.0.above_length)))
