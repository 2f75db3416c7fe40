-- A part that is an arc goes to the arcs, and the parts of one that is an edge go to the stack.
use Rattle.std.proofs.Common.{◌≡◌, ◌<◌, ◌++◌, false, List, length, map, reverse, sum_by, subst, sym, All}
use Rattle.std.proofs.lemmas.List.Elements.{All-append}
use Rattle.edge_forest.specs.declared.edge.Part.{Part}
use Rattle.edge_forest.specs.declared.walk.Link.{Link}
use Rattle.edge_forest.specs.Edges.{chains_of, chain_of, parts_chain}
use Rattle.edge_forest.specs.Walks.{chain_link, inner_parts}
use Rattle.edge_forest.proofs.Walks.{part_size, sizes_of, popped_known, visit_arc, visit_edge, visit_smaller, inner_known}
use Rattle.edge_forest.proofs.walk.links_from_last.Goals as goal

pub loop-part-preserved-in-Continue-branch-2 : goal.loop-part-preserved-in-Continue-branch-2
loop-part-preserved-in-Continue-branch-2 c =
    let edges = c.args.edges.now in
    let stack = c.pop.new.self.items in
    let known = popped_known (λ p. p.leaf ≡ false → p.id < length edges) c.loop-part.stack.items stack c.in-Some.part c.in-Some.ensures.items c.loop-part.invariant.known in
    record {
      known = known.0;
      chain = subst (λ (links : List Link). parts_chain (chains_of edges) stack ++ reverse (map chain_link links) ≡ chain_of edges c.args.id)
          (sym c.in_ok-push-2.ensures.items)
          (visit_arc (chains_of edges) c.loop-part.stack.items stack c.in-Some.part c.loop-part.links.items (chain_of edges c.args.id)
          c.in-Some.ensures.items c.if-part.true c.loop-part.invariant.chain);
    }

pub loop-part-smaller : goal.loop-part-smaller
loop-part-smaller c =
    let edges = c.args.edges.now in
    let old = c.loop-part.stack.items in
    let stack = c.pop.new.self.items in
    let known = popped_known (λ p. p.leaf ≡ false → p.id < length edges) old stack c.in-Some.part c.in-Some.ensures.items c.loop-part.invariant.known in
    subst (λ (parts : List Part). sum_by (part_size (sizes_of edges)) parts < sum_by (part_size (sizes_of edges)) old) (sym c.in_ok-push_parts_of.ensures)
    (visit_smaller edges c.requires.parts old stack c.in-Some.part c.in-Some.ensures.items c.if-part.false (known.1 c.if-part.false))

pub loop-part-preserved : goal.loop-part-preserved
loop-part-preserved c =
    let edges = c.args.edges.now in
    let old = c.loop-part.stack.items in
    let stack = c.pop.new.self.items in
    let Known = λ (p : Part). p.leaf ≡ false → p.id < length edges in
    let known = popped_known Known old stack c.in-Some.part c.in-Some.ensures.items c.loop-part.invariant.known in
    record {
      known = subst (All Known) (sym c.in_ok-push_parts_of.ensures)
          (All-append Known stack (inner_parts edges c.in-Some.part) known.0 (inner_known edges c.requires.parts c.in-Some.part c.if-part.false (known.1 c.if-part.false)));
      chain = subst (λ (parts : List Part). parts_chain (chains_of edges) parts ++ reverse (map chain_link c.loop-part.links.items) ≡ chain_of edges c.args.id)
          (sym c.in_ok-push_parts_of.ensures)
          (visit_edge edges c.requires.parts old stack c.in-Some.part c.in-Some.ensures.items c.if-part.false (known.1 c.if-part.false)
          (reverse (map chain_link c.loop-part.links.items)) (chain_of edges c.args.id) c.loop-part.invariant.chain);
    }
