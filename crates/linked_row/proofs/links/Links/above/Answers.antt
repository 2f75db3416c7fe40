use Rattle.linked_row.specs.Linked.{aboves, belows}
use Rattle.linked_row.proofs.Entries.{above_read}
use Rattle.linked_row.proofs.Nodes.{opened, read_above}
use Rattle.linked_row.proofs.links.Links.above.Goals as goal

pub returns-clause-node : goal.returns-clause-node
returns-clause-node c =
    let nodes = c.self.inside.nodes.items in
    let above = aboves nodes in
    let below = belows nodes in
    let l = c.args.self.now in
    let is = opened above below c.self.inside.len l c.self.invariant c.self.view_is in
    read_above above below l is.0 c.args.number c.index.result.now.above c.requires (above_read nodes c.args.number c.index.result.now c.index.ensures)
