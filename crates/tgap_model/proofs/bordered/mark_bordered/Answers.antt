use Rattle.std.proofs.Common.{length, sym, ap, ◌∙◌, arith}
use Rattle.tgap_model.specs.Marks.{mark_on}
use Rattle.tgap_model.proofs.Marks.{marked-nothing, arc-faces, marks_more}
use Rattle.tgap_model.proofs.bordered.mark_bordered.Goals as goal

pub loop-arc-init : goal.loop-arc-init
loop-arc-init c = sym (marked-nothing 1 c.args.classes.now)

pub mark_face-requires : goal.mark_face-requires
mark_face-requires c =
    let faces = arc-faces (length c.args.classes.now) c.args.arcs.now c.loop-arc.arc-index c.arc-item.result c.requires.arcs c.loop-arc-test.true c.arc-item.is in
    record { face_in = omega arith }

pub mark_face-requires-in-loop-arc : goal.mark_face-requires-in-loop-arc
mark_face-requires-in-loop-arc c =
    let faces = arc-faces (length c.args.classes.now) c.args.arcs.now c.loop-arc.arc-index c.arc-item.result c.requires.arcs c.loop-arc-test.true c.arc-item.is in
    record { face_in = omega arith }

pub loop-arc-preserved : goal.loop-arc-preserved
loop-arc-preserved c =
    c.mark_face-in-loop-arc.ensures
    ∙ ap (mark_on c.arc-item.result.right) (c.mark_face.ensures ∙ ap (mark_on c.arc-item.result.left) c.loop-arc.invariant)
    ∙ marks_more c.args.classes.now c.args.arcs.now c.loop-arc.arc-index c.arc-item.result c.requires.classes c.requires.arcs c.loop-arc-test.true c.arc-item.is
