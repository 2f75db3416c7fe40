-- The faces at the sides are the labels of those of the arc with the edge's key.
use Rattle.std.proofs.Common.{◌≡◌, ◌++◌, ℕ, OnOk, ap, subst, ◌∙◌}
use Rattle.tgap_model.specs.declared.slice.Edge.{Edge}
use Rattle.tgap_model.specs.Merged.{MergedMap, merged, label_at}
use Rattle.tgap_model.specs.Chains.{arc_number, chain_points}
use Rattle.tgap_model.specs.Removals.{edge_of}
use Rattle.line_forms.specs.Texts.{line}
use Rattle.wire_text.specs.SliceTexts.{edge_words}
use Rattle.edge_forest.specs.declared.edge.ForestEdge.{ForestEdge}
use Rattle.edge_forest.specs.Edges.{edge_at, chain_of}
use Rattle.tgap_build.proofs.Removed.{left_points}
use Rattle.tgap_build.proofs.Sides.{arc_sides, side_made, side_label}
use Rattle.built_text.proofs.SliceParts.{same_edge}
use Rattle.built_text.proofs.slice.put_edge_at.Goals as goal

pub ancestor-left-requires-clause-made : goal.ancestor-left-requires-clause-made
ancestor-left-requires-clause-made c =
    let forest = c.args.forest.now in
    let edge = edge_at forest.edges c.args.id in
    let is = ap (λ (e : ForestEdge). e.left) c.edge-edge.ensures.value ∙ c.edge-edge.ensures.edge.left in
    side_made forest.base c.requires.base c.args.tree.now c.requires.history edge.low c.args.k c.requires.low c.requires.step
    (arc_number forest.base.arcs edge.key).left c.edge-edge.result.now.left (arc_sides forest.base c.requires.base edge.key).0 is

pub ancestor-right-requires-clause-made : goal.ancestor-right-requires-clause-made
ancestor-right-requires-clause-made c =
    let forest = c.args.forest.now in
    let edge = edge_at forest.edges c.args.id in
    let is = ap (λ (e : ForestEdge). e.right) c.edge-edge.ensures.value ∙ c.edge-edge.ensures.edge.right in
    side_made forest.base c.requires.base c.args.tree.now c.requires.history edge.low c.args.k c.requires.low c.requires.step
    (arc_number forest.base.arcs edge.key).right c.edge-edge.result.now.right (arc_sides forest.base c.requires.base edge.key).1 is

pub returns : goal.returns
returns c removals gone =
    let forest = c.args.forest.now in
    let h : MergedMap = merged forest.base in
    let k = c.args.k in
    let edge = edge_at forest.edges c.args.id in
    let base = c.requires.base in
    let known = c.edge-edge.ensures.edge in
    let key_is = ap (λ (e : ForestEdge). e.key) c.edge-edge.ensures.value ∙ known.key in
    let left = ap (λ (e : ForestEdge). e.left) c.edge-edge.ensures.value ∙ known.left in
    let right = ap (λ (e : ForestEdge). e.right) c.edge-edge.ensures.value ∙ known.right in
    let arc = arc_number forest.base.arcs edge.key in
    let left_is = c.ancestor-left.ensures.label
    ∙ (side_label forest.base base c.args.tree.now c.requires.history edge.low k c.requires.low c.requires.step arc.left _ (arc_sides forest.base base edge.key).0 left
    ∙ ap (λ (i : ℕ). label_at h k (arc_number forest.base.arcs i).left) known.key) in
    let right_is = c.ancestor-right.ensures.label
    ∙ (side_label forest.base base c.args.tree.now c.requires.history edge.low k c.requires.low c.requires.step arc.right _ (arc_sides forest.base base edge.key).1 right
    ∙ ap (λ (i : ℕ). label_at h k (arc_number forest.base.arcs i).right) known.key) in
    let points_are = c.as_slice-points.ensures ∙ c.in_ok-read_points.ensures ∙ left_points forest k removals gone (chain_points forest.base.arcs (chain_of forest.edges c.args.id)) in
    subst (λ (e : Edge). OnOk c.put_edge.result (c.put_edge.new.out ≡ c.args.out.now ++ line (edge_words e)))
    (same_edge _ _ _ _ (edge_of h k removals (chain_of forest.edges c.args.id)) key_is left_is right_is points_are) c.put_edge.ensures
