-- The span of one more part.
use Rattle.std.proofs.Common.{◌+◌, ◌<◌, false, [], take, length, sym, ap, ◌∙◌, subst, arith}
use Rattle.std.proofs.lemmas.List.{get_or_read, take_all}
use Rattle.tgap_model.specs.Chains.{Chain}
use Rattle.edge_forest.specs.declared.edge.Part.{Part}
use Rattle.edge_forest.specs.declared.edge.ForestEdge.{ForestEdge}
use Rattle.edge_forest.specs.Edges.{parts_chain, chains_of}
use Rattle.edge_forest.specs.Spent.{joined_span, IsSpan}
use Rattle.edge_forest.proofs.Walks.{chain_step}
use Rattle.edge_forest.proofs.WalkedArcs.{made_of_earlier}
use Rattle.edge_forest.proofs.PartSpans.{listed_part, first_part, next_part}
use Rattle.edge_forest.proofs.spent.edge_span.Goals as goal

abbrev no_edge : ForestEdge
no_edge = record { key = 0; low = 0; high = 0; left = 0; right = 0; parts = [] }

abbrev no_part : Part
no_part = record { leaf = false; id = 0; turned = false }

pub loop-i-init : goal.loop-i-init
loop-i-init c =
    let arcs = c.args.arcs.now in
    let t = c.args.removed.now in
    let edges = c.args.edges.now in
    let id = c.args.id in
    let parts = c.as_slice-parts.result.now in
    let read = get_or_read edges id c.index-edges-id.result c.requires.id c.index-edges-id.is no_edge in
    let same = c.as_slice-parts.ensures ∙ ap (λ (e : ForestEdge). e.parts) (sym c.index-edges-id.is ∙ read) in
    let some : 0 < length parts = omega (arith, c.requires.some, ap length same) in
    subst (IsSpan arcs t (parts_chain (chains_of edges) (take 1 parts))) (sym c.span_of-span.ensures)
    (first_part arcs c.requires.long t (chains_of edges) parts no_part _ some
    (listed_part arcs c.requires.long t edges c.args.steps.now c.args.spans.now id parts same (c.requires.parts id c.requires.id) c.requires.arcs c.requires.before
    c.requires.steps c.requires.spans 0 no_part some))

pub loop-i-preserved : goal.loop-i-preserved
loop-i-preserved c =
    let arcs = c.args.arcs.now in
    let t = c.args.removed.now in
    let edges = c.args.edges.now in
    let id = c.args.id in
    let i = c.loop-i.i in
    let parts = c.as_slice-parts.result.now in
    let read = get_or_read edges id c.index-edges-id.result c.requires.id c.index-edges-id.is no_edge in
    let same = c.as_slice-parts.ensures ∙ ap (λ (e : ForestEdge). e.parts) (sym c.index-edges-id.is ∙ read) in
    let within : i < length parts = omega (arith, c.loop-i-test.true, c.loop-i.auto.i-end) in
    subst (IsSpan arcs t (parts_chain (chains_of edges) (take (i + 1) parts))) (sym (c.joined-span.ensures ∙ ap (joined_span arcs t c.loop-i.span) c.span_of.ensures))
    (next_part arcs c.requires.long t (chains_of edges) parts i no_part c.loop-i.span _ within c.loop-i.invariant
    (listed_part arcs c.requires.long t edges c.args.steps.now c.args.spans.now id parts same (c.requires.parts id c.requires.id) c.requires.arcs c.requires.before
    c.requires.steps c.requires.spans i no_part within))

pub returns : goal.returns
returns c =
    let edges = c.args.edges.now in
    let id = c.args.id in
    let parts = c.as_slice-parts.result.now in
    let read = get_or_read edges id c.index-edges-id.result c.requires.id c.index-edges-id.is no_edge in
    let same = c.as_slice-parts.ensures ∙ ap (λ (e : ForestEdge). e.parts) (sym c.index-edges-id.is ∙ read) in
    subst (λ (c' : Chain). IsSpan c.args.arcs.now c.args.removed.now c' c.loop-i.span)
    (ap (parts_chain (chains_of edges)) (take_all c.loop-i.i parts (omega (arith, c.loop-i-test.false, c.loop-i.auto.i-end)) ∙ same)
    ∙ sym (chain_step edges (made_of_earlier (length c.args.arcs.now) edges c.requires.parts) id c.requires.id)) c.loop-i.invariant
