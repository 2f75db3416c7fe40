-- One more arc: its area goes to its left face, and its negative to its right face.
use Rattle.std.proofs.Common.{arith, ◌≡◌, ◌<◌, ◌≤◌, ◌+◌, ◌==◌, ◌∙◌, ap, sym, subst, ℤ, neg_ℤ, pos, unsigned_abs, length, slice_index_or, List}
use Rattle.tgap_model.specs.declared.merge.LabelledArc.{LabelledArc}
use Rattle.tgap_model.specs.Bounds.{max_area, max_arc_area}
use Rattle.face_merge.specs.Areas.{added}
use Rattle.face_merge.proofs.Arcs.{arc_facts, all_areas}
use Rattle.face_merge.proofs.Sums.{area_is, minus_is, added_at, chosen_size, length-added, areas_next}
use Rattle.face_merge.proofs.areas.areas_of.Goals as goal

pub add-requires-clause-area : goal.add-requires-clause-area
add-requires-clause-area c =
    let arcs = c.args.arcs.now in
    let d : LabelledArc = record { left = 0; right = 0; area = pos 0; extent = 0 } in
    let a : LabelledArc = slice_index_or arcs c.loop-arc.arc-index d in
    let k = arc_facts c.args.faces arcs c.loop-arc.arc-index d c.requires.labelled c.requires.measured c.requires.few c.loop-arc-test.true in
    omega (arith, ap unsigned_abs (c.loop-arc.invariant.value a.left k.labels.left), k.room a.left)

pub add-requires-in-loop-arc-clause-area : goal.add-requires-in-loop-arc-clause-area
add-requires-in-loop-arc-clause-area c =
    let arcs = c.args.arcs.now in
    let xs = c.loop-arc.areas.items in
    let d : LabelledArc = record { left = 0; right = 0; area = pos 0; extent = 0 } in
    let a : LabelledArc = slice_index_or arcs c.loop-arc.arc-index d in
    let k = arc_facts c.args.faces arcs c.loop-arc.arc-index d c.requires.labelled c.requires.measured c.requires.few c.loop-arc-test.true in
    let left : a.left < length xs = omega (arith, k.labels.left, c.loop-arc.invariant.count) in
    let one : c.add.new.areas.items ≡ added xs a.left a.area = c.add.ensures ∙ ap (λ (z : ℤ). added xs a.left z) (area_is a.area k.sizes.area) in
    let e = ap (λ (ys : List ℤ). slice_index_or ys a.right (pos 0)) one ∙ added_at xs a.left a.area a.right left in
    let before = c.loop-arc.invariant.value a.right k.labels.right in
    let room : unsigned_abs (slice_index_or xs a.right (pos 0)) + max_arc_area ≤ max_area = subst (λ (z : ℤ). unsigned_abs z + max_arc_area ≤ max_area) (sym before) (k.room a.right) in
    subst (λ (z : ℤ). unsigned_abs z ≤ max_area) (sym e)
    (chosen_size (slice_index_or xs a.right (pos 0)) a.area (a.left == a.right) max_area room k.sizes.area)

pub loop-arc-preserved : goal.loop-arc-preserved
loop-arc-preserved c =
    let i = c.loop-arc.arc-index in
    let arcs = c.args.arcs.now in
    let xs = c.loop-arc.areas.items in
    let zs = c.add-in-loop-arc.new.areas.items in
    let d : LabelledArc = record { left = 0; right = 0; area = pos 0; extent = 0 } in
    let a : LabelledArc = slice_index_or arcs i d in
    let inside = c.loop-arc-test.true in
    let k = arc_facts c.args.faces arcs i d c.requires.labelled c.requires.measured c.requires.few inside in
    let left : a.left < length xs = omega (arith, k.labels.left, c.loop-arc.invariant.count) in
    let right : a.right < length xs = omega (arith, k.labels.right, c.loop-arc.invariant.count) in
    let one : c.add.new.areas.items ≡ added xs a.left a.area = c.add.ensures ∙ ap (λ (z : ℤ). added xs a.left z) (area_is a.area k.sizes.area) in
    let two : zs ≡ added (added xs a.left a.area) a.right (neg_ℤ a.area) =
    c.add-in-loop-arc.ensures
    ∙ (ap (λ (z : ℤ). added c.add.new.areas.items a.right z) (minus_is a.area k.sizes.area) ∙ ap (λ (ys : List ℤ). added ys a.right (neg_ℤ a.area)) one) in
    record {
      count = ap length two ∙ (length-added (added xs a.left a.area) a.right (neg_ℤ a.area) ∙ (length-added xs a.left a.area ∙ c.loop-arc.invariant.count));
      value = λ f p. ap (λ (ys : List ℤ). slice_index_or ys f (pos 0)) two ∙ areas_next xs arcs i d f inside left right (c.loop-arc.invariant.value f p);
    }

pub returns : goal.returns
returns c =
    all_areas c.args.faces c.args.arcs.now c.loop-arc.arc-index c.loop-arc.areas.items c.loop-arc-test.false c.loop-arc.invariant.count c.loop-arc.invariant.value
