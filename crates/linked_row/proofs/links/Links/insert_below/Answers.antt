use Rattle.std.proofs.Common.{ℕ, List, set, length, ap, ◌∙◌, arith}
use Rattle.std.proofs.lemmas.List.{length-set, length-map}
use Rattle.linked_row.specs.declared.links.Node.{Node}
use Rattle.linked_row.specs.Linked.{Linked, aboves, belows}
use Rattle.linked_row.proofs.Entries.{below_read}
use Rattle.linked_row.proofs.Nodes.{opened, node_within, read_below}
use Rattle.linked_row.proofs.Changes.{inserted, countable}
use Rattle.linked_row.proofs.links.Links.insert_below.Goals as goal

pub join-requires-2-clause-lower : goal.join-requires-2-clause-lower
join-requires-2-clause-lower c =
    let nodes = c.self.inside.nodes.items in
    let above = aboves nodes in
    let below = belows nodes in
    let l = c.args.self.now in
    let is = opened above below c.self.inside.len l c.self.invariant c.self.view_is in
    let lower = c.index.result.now.below in
    let node = read_below above below l is.0 c.args.upper lower c.requires.node (below_read nodes c.args.upper c.index.result.now c.index.ensures) in
    omega (
      arith,
      node_within above below l is.0 lower node,
      is.0.above_length,
      ap length c.join.ensures.above,
      length-set above c.args.number c.args.upper,
      length-map c.join.new.nodes.items (λ (n : Node). n.above),
    )

pub overflow_add-self : goal.overflow_add-self
overflow_add-self c =
    let i = c.self.inside in
    omega (arith, countable (aboves i.nodes.items) (belows i.nodes.items) i.len c.args.self.now c.self.invariant c.self.view_is)

pub invariant_of-self : goal.invariant_of-self
invariant_of-self c =
    let i = c.self.inside in
    let lower = c.index.result.now.below in
    let read = below_read i.nodes.items c.args.upper c.index.result.now c.index.ensures in
    (inserted (aboves i.nodes.items) (belows i.nodes.items) i.len c.args.self.now c.self.invariant c.self.view_is c.args.upper lower c.args.number
    c.requires.node c.requires.known c.requires.new read (aboves c.join-2.new.nodes.items) (belows c.join-2.new.nodes.items)
    (c.join-2.ensures.above ∙ ap (λ (zs : List ℕ). set zs lower c.args.number) c.join.ensures.above)
    (c.join-2.ensures.below ∙ ap (λ (zs : List ℕ). set zs c.args.number lower) c.join.ensures.below)).0

pub returns-clause-placed : goal.returns-clause-placed
returns-clause-placed c =
    let i = c.self.inside in
    let lower = c.index.result.now.below in
    let read = below_read i.nodes.items c.args.upper c.index.result.now c.index.ensures in
    let p = (inserted (aboves i.nodes.items) (belows i.nodes.items) i.len c.args.self.now c.self.invariant c.self.view_is c.args.upper lower c.args.number
    c.requires.node c.requires.known c.requires.new read (aboves c.join-2.new.nodes.items) (belows c.join-2.new.nodes.items)
    (c.join-2.ensures.above ∙ ap (λ (zs : List ℕ). set zs lower c.args.number) c.join.ensures.above)
    (c.join-2.ensures.below ∙ ap (λ (zs : List ℕ). set zs c.args.number lower) c.join.ensures.below)).1 in
    (p.0, p.1, p.2, ap (λ (l : Linked). l.row) p.3)
