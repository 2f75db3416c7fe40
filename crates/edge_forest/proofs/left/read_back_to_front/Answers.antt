-- A part goes to the points, or its parts to the stack.
use Rattle.std.proofs.Common.{rules, ◌≡◌, ◌<◌, ◌++◌, List, [], length, sum_by, sym, ap, ◌∙◌, subst, arith}
use Rattle.std.proofs.lemmas.Bool.{or_parts}
use Rattle.tgap_model.specs.declared.geometry.Point.{Point}
use Rattle.edge_forest.specs.declared.edge.Part.{Part}
use Rattle.edge_forest.specs.Edges.{IsPart, part_chain, parts_chain, chains_of}
use Rattle.edge_forest.specs.Spent.{is_past, left_points}
use Rattle.edge_forest.proofs.LeftWalks.{IsWritten, alone, other_true, popped_span, part_points, part_written, part_opened, taken_smaller}
use Rattle.edge_forest.proofs.Walks.{part_size, sizes_of, popped_known, visit_smaller}
use Rattle.edge_forest.proofs.WalkedArcs.{made_of_earlier}
use Rattle.edge_forest.proofs.left.read_back_to_front.Goals as goal

pub loop-part-smaller-then-is_whole : goal.loop-part-smaller-then-is_whole
loop-part-smaller-then-is_whole c =
    let arcs = length c.args.arcs.now in
    let edges = c.args.edges.now in
    let old = c.loop-part.stack.items in
    let stack = c.pop.new.self.items in
    let w = c.requires.spent in
    let known = (popped_known (IsPart arcs (length edges)) old stack c.in-Some.part c.in-Some.ensures.items (c.loop-part.invariant w.0 w.1).known).1 in
    taken_smaller edges (made_of_earlier arcs edges c.requires.parts) old stack c.in-Some.part c.in-Some.ensures.items known.edge

pub loop-part-preserved-then-is_whole : goal.loop-part-preserved-then-is_whole
loop-part-preserved-then-is_whole c = λ t spent_is.
    let arcs = c.args.arcs.now in
    let k = c.args.k in
    let edges = c.args.edges.now in
    let spent = c.args.spent.now in
    let old = c.loop-part.stack.items in
    let stack = c.pop.new.self.items in
    let p = c.in-Some.part in
    let s = c.span_of-span.result in
    let mid = c.take_out_start.new.points.items in
    let popped = c.in-Some.ensures.items in
    let written = c.loop-part.invariant t spent_is in
    let span = popped_span arcs c.requires.long t k edges spent old stack p s spent_is popped written.known c.span_of-span.ensures in
    let whole = sym c.is_whole.ensures ∙ c.if-is_whole.true in
    part_written arcs c.requires.long t k edges c.args.id old stack p popped s c.loop-part.points.items mid c.push_part.new.points.items
    c.loop-part.start_left _ written span c.take_out_start.ensures
    (c.in_ok-start_left.ensures.points t spent_is.gone ∙ ap (λ (ps : List Point). mid ++ ps)
    (part_points arcs c.requires.long t k (part_chain (chains_of edges) p) s span
    (λ e. alone (chains_of edges) spent.arcs.items spent.edges.items p s (other_true p.leaf (is_past s.step k) whole e) c.span_of-span.ensures)))
    (c.in_ok-start_left.ensures.start t spent_is.gone)

pub loop-part-smaller : goal.loop-part-smaller
loop-part-smaller c =
    let arcs = length c.args.arcs.now in
    let edges = c.args.edges.now in
    let old = c.loop-part.stack.items in
    let stack = c.pop.new.self.items in
    let p = c.in-Some.part in
    let w = c.requires.spent in
    let known = (popped_known (IsPart arcs (length edges)) old stack p c.in-Some.ensures.items (c.loop-part.invariant w.0 w.1).known).1 in
    let further = (or_parts p.leaf (is_past c.span_of-span.result.step c.args.k) (sym c.is_whole.ensures ∙ c.if-is_whole.false)).0 in
    subst (λ (parts : List Part). sum_by (part_size (sizes_of edges)) parts < sum_by (part_size (sizes_of edges)) old) (sym c.in_ok-push_parts_of.ensures)
    (visit_smaller edges (made_of_earlier arcs edges c.requires.parts) old stack p c.in-Some.ensures.items further (known.edge further))

pub loop-part-preserved : goal.loop-part-preserved
loop-part-preserved c = λ t spent_is.
    let arcs = c.args.arcs.now in
    let edges = c.args.edges.now in
    let old = c.loop-part.stack.items in
    let stack = c.pop.new.self.items in
    let p = c.in-Some.part in
    let written = c.loop-part.invariant t spent_is in
    let known = (popped_known (IsPart (length arcs) (length edges)) old stack p c.in-Some.ensures.items written.known).1 in
    let further = (or_parts p.leaf (is_past c.span_of-span.result.step c.args.k) (sym c.is_whole.ensures ∙ c.if-is_whole.false)).0 in
    subst (λ (parts : List Part). IsWritten arcs t c.args.k edges c.args.id parts c.loop-part.points.items c.loop-part.start_left)
    (sym c.in_ok-push_parts_of.ensures)
    (part_opened arcs c.requires.long t c.args.k edges c.args.id old stack p c.in-Some.ensures.items c.loop-part.points.items c.loop-part.start_left
    c.requires.parts (made_of_earlier (length arcs) edges c.requires.parts) written further (known.edge further))

pub span_of-span-requires-clause-arc : goal.span_of-span-requires-clause-arc
span_of-span-requires-clause-arc c = λ leaf.
    let arcs = length c.args.arcs.now in
    let edges = c.args.edges.now in
    let w = c.requires.spent in
    let known = (popped_known (IsPart arcs (length edges)) c.loop-part.stack.items c.pop.new.self.items c.in-Some.part c.in-Some.ensures.items (c.loop-part.invariant w.0 w.1).known).1 in
    omega (arith, known.arc leaf, w.1.arcs_count)

pub span_of-span-requires-clause-edge : goal.span_of-span-requires-clause-edge
span_of-span-requires-clause-edge c = λ further.
    let arcs = length c.args.arcs.now in
    let edges = c.args.edges.now in
    let w = c.requires.spent in
    let known = (popped_known (IsPart arcs (length edges)) c.loop-part.stack.items c.pop.new.self.items c.in-Some.part c.in-Some.ensures.items (c.loop-part.invariant w.0 w.1).known).1 in
    omega (arith, known.edge further, w.1.edges_count)

pub push_part-requires-clause-first : goal.push_part-requires-clause-first
push_part-requires-clause-first c =
    let w = c.requires.spent in
    (popped_span c.args.arcs.now c.requires.long w.0 c.args.k c.args.edges.now c.args.spent.now c.loop-part.stack.items c.pop.new.self.items c.in-Some.part c.span_of-span.result
    w.1 c.in-Some.ensures.items (c.loop-part.invariant w.0 w.1).known c.span_of-span.ensures).first_arc

pub push_part-requires-clause-last : goal.push_part-requires-clause-last
push_part-requires-clause-last c =
    let w = c.requires.spent in
    (popped_span c.args.arcs.now c.requires.long w.0 c.args.k c.args.edges.now c.args.spent.now c.loop-part.stack.items c.pop.new.self.items c.in-Some.part c.span_of-span.result
    w.1 c.in-Some.ensures.items (c.loop-part.invariant w.0 w.1).known c.span_of-span.ensures).last_arc

pub returns : goal.returns
returns c = λ t spent_is.
    let edges = c.args.edges.now in
    let written = c.loop-part.invariant t spent_is in
    let empty : c.loop-part.stack.items ≡ [] = search rules in
    written.points ∙ ap (left_points c.args.arcs.now t c.args.k)
    (ap (λ (parts : List Part). parts_chain (chains_of edges) parts ++ written.done) (sym empty) ∙ written.chain)
