-- An edge of before goes to those that were found, and the parts of another one go to the stack.
use Rattle.std.proofs.Common.{◌≡◌, ◌++◌, ◌-◌, ◌∷◌, [], ◌<◌, List, map, reverse, sum_by, All, Contains, subst, sym, ap, ◌∙◌}
use Rattle.std.proofs.lemmas.List.Elements.{All-append, All-cons, All-nil}
use Rattle.tgap_model.specs.Merged.{merged}
use Rattle.tgap_model.specs.Chains.{key, chains_at}
use Rattle.edge_forest.specs.declared.edge.Part.{Part}
use Rattle.edge_forest.specs.declared.edge.ForestEdge.{ForestEdge}
use Rattle.edge_forest.specs.Edges.{chains_of, chain_of, parts_chain, edge_at}
use Rattle.edge_forest.specs.Walks.{inner_parts}
use Rattle.edge_forest.proofs.Walks.{part_size, sizes_of, popped_known, visit_edge, visit_smaller}
use Rattle.tgap_build.specs.declared.joined.OldEdge.{OldEdge}
use Rattle.tgap_build.specs.OldEdges.{old_chains}
use Rattle.tgap_build.proofs.OldWalks.{IsWalked, made_earlier, found_there, visit_old, old_smaller, inner_walked}
use Rattle.tgap_build.proofs.joined.old_from_last.Goals as goal

pub loop-part-smaller-in-Continue-branch-2 : goal.loop-part-smaller-in-Continue-branch-2
loop-part-smaller-in-Continue-branch-2 c =
    let f = c.args.forest.now in
    let all = c.loop-part.stack.items in
    let stack = c.pop.new.self.items in
    let p = c.in-Some.part in
    let known = popped_known (IsWalked c.args.k c.args.first f.edges) all stack p c.in-Some.ensures.items c.loop-part.invariant.known in
    old_smaller f c.requires.forest c.args.k c.args.first c.requires.step.0 c.requires.step.1 c.requires.before c.requires.joined p known.1 c.if-part-first.true all stack c.in-Some.ensures.items

pub loop-part-preserved-in-Continue-branch-2 : goal.loop-part-preserved-in-Continue-branch-2
loop-part-preserved-in-Continue-branch-2 c =
    let f = c.args.forest.now in
    let all = c.loop-part.stack.items in
    let stack = c.pop.new.self.items in
    let p = c.in-Some.part in
    let back = c.loop-part.found.items in
    let finer = chains_at (merged f.base) (c.args.k - 1) in
    let There = λ (q : OldEdge). Contains (map key finer) q.key in
    let one : OldEdge = record { key = (edge_at f.edges p.id).key; turned = p.turned } in
    let known = popped_known (IsWalked c.args.k c.args.first f.edges) all stack p c.in-Some.ensures.items c.loop-part.invariant.known in
    let more = c.in_ok-push-2.ensures.items ∙ ap (λ (e : ForestEdge). back ++ (record { key = e.key; turned = p.turned }) ∷ []) c.edge.ensures.value in
    record {
      known = known.0;
      there = subst (All There) (sym more)
          (All-append There back (one ∷ []) c.loop-part.invariant.there
          (All-cons There one []
          (found_there f c.requires.forest c.args.k c.args.first c.requires.step.0 c.requires.step.1 c.requires.before c.requires.joined p known.1 c.if-part-first.true) (All-nil There)));
      chain = subst (λ (parts : List OldEdge). parts_chain (chains_of f.edges) stack ++ old_chains finer (reverse parts) ≡ chain_of f.edges c.args.id) (sym more)
          (visit_old f c.requires.forest c.args.k c.args.first c.requires.step.0 c.requires.step.1 c.requires.before c.requires.joined p known.1 c.if-part-first.true
          all stack back (chain_of f.edges c.args.id) c.in-Some.ensures.items c.loop-part.invariant.chain);
    }

pub push_parts_of-requires : goal.push_parts_of-requires
push_parts_of-requires c =
    (popped_known (IsWalked c.args.k c.args.first c.args.forest.now.edges) c.loop-part.stack.items c.pop.new.self.items c.in-Some.part c.in-Some.ensures.items c.loop-part.invariant.known).1.within

pub loop-part-smaller : goal.loop-part-smaller
loop-part-smaller c =
    let f = c.args.forest.now in
    let all = c.loop-part.stack.items in
    let stack = c.pop.new.self.items in
    let p = c.in-Some.part in
    let known = popped_known (IsWalked c.args.k c.args.first f.edges) all stack p c.in-Some.ensures.items c.loop-part.invariant.known in
    subst (λ (parts : List Part). sum_by (part_size (sizes_of f.edges)) parts < sum_by (part_size (sizes_of f.edges)) all) (sym c.in_ok-push_parts_of.ensures)
    (visit_smaller f.edges (made_earlier f c.requires.forest) all stack p c.in-Some.ensures.items known.1.joined.edge known.1.within)

pub loop-part-preserved : goal.loop-part-preserved
loop-part-preserved c =
    let f = c.args.forest.now in
    let all = c.loop-part.stack.items in
    let stack = c.pop.new.self.items in
    let p = c.in-Some.part in
    let finer = chains_at (merged f.base) (c.args.k - 1) in
    let back = old_chains finer (reverse c.loop-part.found.items) in
    let known = popped_known (IsWalked c.args.k c.args.first f.edges) all stack p c.in-Some.ensures.items c.loop-part.invariant.known in
    record {
      known = subst (All (IsWalked c.args.k c.args.first f.edges)) (sym c.in_ok-push_parts_of.ensures)
          (All-append (IsWalked c.args.k c.args.first f.edges) stack (inner_parts f.edges p) known.0
          (inner_walked f c.requires.forest c.args.k c.args.first c.requires.step.0 c.requires.step.1 c.requires.before c.requires.joined p known.1 c.if-part-first.false));
      there = c.loop-part.invariant.there;
      chain = subst (λ (parts : List Part). parts_chain (chains_of f.edges) parts ++ back ≡ chain_of f.edges c.args.id) (sym c.in_ok-push_parts_of.ensures)
          (visit_edge f.edges (made_earlier f c.requires.forest) all stack p c.in-Some.ensures.items known.1.joined.edge known.1.within back (chain_of f.edges c.args.id) c.loop-part.invariant.chain);
    }
