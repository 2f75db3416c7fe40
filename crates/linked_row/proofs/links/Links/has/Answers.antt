use Rattle.std.proofs.Common.{arith}
use Rattle.linked_row.specs.Linked.{aboves, belows}
use Rattle.linked_row.proofs.Entries.{below_read}
use Rattle.linked_row.proofs.Nodes.{opened, inside_told}
use Rattle.linked_row.proofs.links.Links.has.Goals as goal

pub returns-then-number-end : goal.returns-then-number-end
returns-then-number-end c =
    let nodes = c.self.inside.nodes.items in
    let above = aboves nodes in
    let below = belows nodes in
    let l = c.args.self.now in
    let is = opened above below c.self.inside.len l c.self.invariant c.self.view_is in
    inside_told above below l is.0 c.args.number c.index.result.now.below (omega (arith, c.if-number-end.true, c.end.ensures))
    (below_read nodes c.args.number c.index.result.now c.index.ensures)
