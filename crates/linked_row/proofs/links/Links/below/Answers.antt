use Rattle.linked_row.specs.Linked.{aboves, belows}
use Rattle.linked_row.proofs.Entries.{below_read}
use Rattle.linked_row.proofs.Nodes.{opened, read_below}
use Rattle.linked_row.proofs.links.Links.below.Goals as goal

pub returns-clause-node : goal.returns-clause-node
returns-clause-node c =
    let nodes = c.self.inside.nodes.items in
    let above = aboves nodes in
    let below = belows nodes in
    let l = c.args.self.now in
    let is = opened above below c.self.inside.len l c.self.invariant c.self.view_is in
    read_below above below l is.0 c.args.number c.index.result.now.below c.requires (below_read nodes c.args.number c.index.result.now c.index.ensures)
