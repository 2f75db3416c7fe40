-- The box of the next edge is that of the boxes of its parts.
use Rattle.std.proofs.Common.{◌≡◌, ◌<◌, ◌≤◌, ℕ, ◌+◌, List, ◌∷◌, [], ◌++◌, map, length, All, sym, ap, ap₂, ◌∙◌, subst, arith}
use Rattle.std.specs.List.{range_with_len}
use Rattle.std.proofs.lemmas.List.{length-map}
use Rattle.std.proofs.lemmas.List.FromFn.{length-map-range_with_len, map-range_with_len_more}
use Rattle.tgap_model.specs.declared.geometry.Window.{Window}
use Rattle.tgap_model.specs.declared.base.BaseArc.{BaseArc}
use Rattle.tgap_model.specs.Base.{BaseMap}
use Rattle.edge_forest.specs.declared.edge.Part.{Part}
use Rattle.edge_forest.specs.declared.edge.ForestEdge.{ForestEdge}
use Rattle.edge_forest.specs.Edges.{IsPart}
use Rattle.tgap_build.specs.Boxes.{hull_of, points_box, part_box, edge_box}
use Rattle.tgap_build.proofs.Hulls.{arcs_long, parts_some, parts_box_is}
use Rattle.tgap_build.proofs.boxes.boxes_of.Goals as goal

pub arc_boxes-requires : goal.arc_boxes-requires
arc_boxes-requires c =
    subst (All (λ (a : BaseArc). 2 ≤ length a.points)) (sym (c.as_slice.ensures ∙ c.arcs.ensures.value ∙ ap (λ (m : BaseMap). m.arcs) c.base.ensures.value))
    (arcs_long c.args.forest.now c.base.ensures.forest)

pub parts_box-requires-clause-some : goal.parts_box-requires-clause-some
parts_box-requires-clause-some c =
    let f = c.args.forest.now in
    let inside : c.loop-id.id < length f.edges = omega (arith, c.loop-id-test.true, c.count-id-end.ensures.value) in
    subst (λ (ps : List Part). 0 < length ps) (sym (c.as_slice-parts.ensures ∙ ap (λ (e : ForestEdge). e.parts) c.edge.ensures.value))
    (parts_some f c.base.ensures.forest c.loop-id.id inside)

pub parts_box-requires-clause-parts : goal.parts_box-requires-clause-parts
parts_box-requires-clause-parts c =
    let f = c.args.forest.now in
    let i = c.loop-id.id in
    let inside : i < length f.edges = omega (arith, c.loop-id-test.true, c.count-id-end.ensures.value) in
    let ps = c.as_slice-parts.result.now in
    let parts = c.as_slice-parts.ensures ∙ ap (λ (e : ForestEdge). e.parts) c.edge.ensures.value in
    let arcs = c.as_slice.ensures ∙ c.arcs.ensures.value ∙ ap (λ (m : BaseMap). m.arcs) c.base.ensures.value in
    let arc_count : length c.deref.result.now ≡ length f.base.arcs
    = ap length (c.deref.ensures.value ∙ c.in_ok-arcs.ensures) ∙ length-map c.as_slice.result.now (λ (a : BaseArc). points_box a.points) ∙ ap length arcs in
    let box_count : length c.deref-in-loop-id.result.now ≡ i
    = ap length (c.deref-in-loop-id.ensures.value ∙ c.loop-id.invariant) ∙ length-map-range_with_len (edge_box f) 0 i in
    subst (λ (n : ℕ). All (IsPart n (length c.deref-in-loop-id.result.now)) ps) (sym arc_count)
    (subst (λ (n : ℕ). All (IsPart (length f.base.arcs) n) ps) (sym box_count)
    (subst (All (IsPart (length f.base.arcs) i)) (sym parts) (c.base.ensures.forest.edges i inside).parts))

pub loop-id-preserved : goal.loop-id-preserved
loop-id-preserved c =
    let f = c.args.forest.now in
    let i = c.loop-id.id in
    let inside : i < length f.edges = omega (arith, c.loop-id-test.true, c.count-id-end.ensures.value) in
    let last : 0 + i ≡ i = omega arith in
    let parts = c.as_slice-parts.ensures ∙ ap (λ (e : ForestEdge). e.parts) c.edge.ensures.value in
    let arcs = c.as_slice.ensures ∙ c.arcs.ensures.value ∙ ap (λ (m : BaseMap). m.arcs) c.base.ensures.value in
    let arc_boxes = c.deref.ensures.value ∙ c.in_ok-arcs.ensures ∙ ap (map (λ (a : BaseArc). points_box a.points)) arcs in
    let boxes = c.deref-in-loop-id.ensures.value ∙ c.loop-id.invariant in
    let box = c.parts_box.ensures
    ∙ ap₂ (λ (xs ys : List Window). hull_of (map (part_box xs ys) c.as_slice-parts.result.now)) arc_boxes boxes
    ∙ ap (λ (ps : List Part). hull_of (map (part_box (map (λ (a : BaseArc). points_box a.points) f.base.arcs) (map (edge_box f) (range_with_len 0 i))) ps)) parts
    ∙ parts_box_is f c.base.ensures.forest i inside in
    c.in_ok-push.ensures.items
    ∙ ap₂ (λ (bs : List Window) (b : Window). bs ++ b ∷ []) c.loop-id.invariant box
    ∙ sym (map-range_with_len_more (edge_box f) 0 i i last)
