use Rattle.std.proofs.Common.{inr, ℕ, List, set, ap, ◌∙◌, arith}
use Rattle.std.proofs.lemmas.List.{length-map}
use Rattle.linked_row.specs.declared.links.Node.{Node}
use Rattle.linked_row.specs.Linked.{Linked, aboves, belows}
use Rattle.linked_row.proofs.Entries.{above_read, below_read, below_written}
use Rattle.linked_row.proofs.Nodes.{opened, node_within, read_above, read_below}
use Rattle.linked_row.proofs.Changes.{removed, countable_row}
use Rattle.linked_row.proofs.links.Links.remove.Goals as goal

pub join-requires-clause-upper : goal.join-requires-clause-upper
join-requires-clause-upper c =
    let nodes = c.self.inside.nodes.items in
    let above = aboves nodes in
    let below = belows nodes in
    let l = c.args.self.now in
    let is = opened above below c.self.inside.len l c.self.invariant c.self.view_is in
    let upper = c.index.result.now.above in
    let node = read_above above below l is.0 c.args.number upper (inr c.requires) (above_read nodes c.args.number c.index.result.now c.index.ensures) in
    omega (arith, node_within above below l is.0 upper node, is.0.above_length, length-map nodes (λ (n : Node). n.above))

pub join-requires-clause-lower : goal.join-requires-clause-lower
join-requires-clause-lower c =
    let nodes = c.self.inside.nodes.items in
    let above = aboves nodes in
    let below = belows nodes in
    let l = c.args.self.now in
    let is = opened above below c.self.inside.len l c.self.invariant c.self.view_is in
    let lower = c.index.result.now.below in
    let node = read_below above below l is.0 c.args.number lower (inr c.requires) (below_read nodes c.args.number c.index.result.now c.index.ensures) in
    omega (arith, node_within above below l is.0 lower node, is.0.above_length, length-map nodes (λ (n : Node). n.above))

pub overflow_sub-self : goal.overflow_sub-self
overflow_sub-self c =
    let i = c.self.inside in
    countable_row (aboves i.nodes.items) (belows i.nodes.items) i.len c.args.self.now c.self.invariant c.self.view_is c.args.number c.requires

pub invariant_of-self : goal.invariant_of-self
invariant_of-self c =
    let i = c.self.inside in
    let node = c.index.result.now in
    let written = below_written c.join.new.nodes.items c.args.number c.index_mut.result.now c.index_mut.ensures.value c.args.number in
    let left = set c.join.new.nodes.items c.args.number (record { above = c.index_mut.result.now.above; below = c.args.number }) in
    (removed (aboves i.nodes.items) (belows i.nodes.items) i.len c.args.self.now c.self.invariant c.self.view_is node.above node.below c.args.number c.requires
    (above_read i.nodes.items c.args.number node c.index.ensures) (below_read i.nodes.items c.args.number node c.index.ensures) (aboves left) (belows left)
    (written.0 ∙ c.join.ensures.above) (written.1 ∙ ap (λ (zs : List ℕ). set zs c.args.number c.args.number) c.join.ensures.below)).0

pub returns-clause-removed : goal.returns-clause-removed
returns-clause-removed c =
    let i = c.self.inside in
    let node = c.index.result.now in
    let written = below_written c.join.new.nodes.items c.args.number c.index_mut.result.now c.index_mut.ensures.value c.args.number in
    let left = set c.join.new.nodes.items c.args.number (record { above = c.index_mut.result.now.above; below = c.args.number }) in
    let p = (removed (aboves i.nodes.items) (belows i.nodes.items) i.len c.args.self.now c.self.invariant c.self.view_is node.above node.below c.args.number c.requires
    (above_read i.nodes.items c.args.number node c.index.ensures) (below_read i.nodes.items c.args.number node c.index.ensures) (aboves left) (belows left)
    (written.0 ∙ c.join.ensures.above) (written.1 ∙ ap (λ (zs : List ℕ). set zs c.args.number c.args.number) c.join.ensures.below)).1 in
    (p.0, p.1, p.2, ap (λ (l : Linked). l.row) p.3)
