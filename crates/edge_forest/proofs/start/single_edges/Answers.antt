-- One more edge.
use Rattle.std.proofs.Common.{◌++◌, ◌∷◌, [], List, true, false, get_or, sym, ap, ap₂, ◌∙◌, arith}
use Rattle.std.proofs.lemmas.List.{get_or_default}
use Rattle.std.proofs.lemmas.List.FromFn.{map-range_with_len_more}
use Rattle.tgap_model.specs.declared.base.BaseArc.{BaseArc}
use Rattle.edge_forest.specs.declared.edge.Part.{Part}
use Rattle.edge_forest.specs.declared.edge.ForestEdge.{ForestEdge}
use Rattle.edge_forest.specs.Forest.{never}
use Rattle.edge_forest.specs.Start.{arc_edge}
use Rattle.edge_forest.proofs.start.single_edges.Goals as goal

pub loop-i-preserved : goal.loop-i-preserved
loop-i-preserved c =
    let i = c.loop-i.i in
    let arcs = c.args.arcs.now in
    let no_arc : BaseArc = record { left = 0; right = 0; points = [] } in
    let left = get_or_default arcs i c.index-arcs-i.result no_arc c.loop-i-test.true in
    let right = get_or_default arcs i c.index-arcs-i-in-loop-i.result no_arc c.loop-i-test.true in
    let leaf : Part = record { leaf = true; id = i; turned = false } in
    let parts = c.in_ok-push.ensures ∙ ap (λ (ps : List Part). ps ++ leaf ∷ []) c.in_ok-parts.ensures in
    let with_arcs = λ (a b : BaseArc) (ps : List Part).
    c.loop-i.edges.items ++ record { key = i; low = 0; high = never; left = a.left; right = b.right; parts = ps } ∷ [] in
    c.in_ok-push-2.ensures.items
    ∙ ap (with_arcs (get_or arcs i c.index-arcs-i.result) (get_or arcs i c.index-arcs-i-in-loop-i.result)) parts
    ∙ ap₂ (λ (a b : BaseArc). with_arcs a b (leaf ∷ [])) left right
    ∙ ap (λ (edges : List ForestEdge). edges ++ arc_edge arcs i ∷ []) c.loop-i.invariant
    ∙ sym (map-range_with_len_more (arc_edge arcs) 0 i i (omega arith))
