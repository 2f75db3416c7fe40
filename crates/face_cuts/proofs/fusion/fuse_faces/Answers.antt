use Rattle.std.proofs.Common.{sym, ◌∙◌}
use Rattle.face_cuts.proofs.FusionsKeep.{fused_copy_is_base, fused_copy}
use Rattle.face_cuts.proofs.fusion.fuse_faces.Goals as goal

pub with_parts-requires : goal.with_parts-requires
with_parts-requires c =
    fused_copy_is_base c.args.base.now c.args.kept c.args.gone c.in_ok-classes.classes c.as_slice.result.now c.in_ok-arcs.arcs c.as_slice-arcs.result.now c.count_faces.result c.arcs.ensures.base
    c.count_faces.ensures (c.as_slice.ensures ∙ c.classes.ensures.value) (c.as_slice-arcs.ensures ∙ c.arcs.ensures.value) c.in_ok-classes.ensures c.in_ok-arcs.ensures
    (sym c.if-not-is_face.ensures) (sym c.if-not-is_face-2.ensures) (sym c.if-not-is_any_between.ensures) (sym c.if-not-is_any_left.ensures)

pub returns : goal.returns
returns c = record {
  exact = fused_copy c.args.base.now c.args.kept c.args.gone c.in_ok-classes.classes c.as_slice.result.now c.in_ok-arcs.arcs c.as_slice-arcs.result.now c.count_faces.result c.in_ok-with_parts.field-0
      c.count_faces.ensures (c.as_slice.ensures ∙ c.classes.ensures.value) (c.as_slice-arcs.ensures ∙ c.arcs.ensures.value) c.in_ok-classes.ensures c.in_ok-arcs.ensures
      (sym c.if-not-is_face.ensures) (sym c.if-not-is_face-2.ensures) (sym c.if-not-is_any_between.ensures) (sym c.if-not-is_any_left.ensures) c.in_ok-with_parts.ensures;
}
