use Rattle.std.proofs.Common.{Bool, cond, get_or, set, sym, ap, ◌∙◌, pos}
use Rattle.tgap_model.specs.declared.geometry.Point.{Point}
use Rattle.edit_laws.specs.Edits.{moved}
use Rattle.map_version.proofs.Positions.{moved_more, kept_more}
use Rattle.map_version.proofs.path.move_points.Goals as goal
use Rattle.map_version.proofs.path.move_points.Goals.{then-eq, else-eq}

pub loop-i-preserved : goal.loop-i-preserved
loop-i-preserved c =
    let nowhere : Point = record { x = pos 0; y = pos 0 } in
    let f = moved c.args.old.now c.args.new in
    let from = c.args.points.now in
    let points = c.loop-i.points in
    let i = c.loop-i.i in
    let p = get_or points i nowhere in
    elim c.if-eq.branch [
      | then-eq w ↦
          w.points-is ∙ (ap (set points i) (sym (ap (λ (b : Bool). cond b c.args.new p) (sym c.eq.ensures ∙ w.if-eq.true)))
          ∙ moved_more f from points i nowhere c.loop-i-test.true c.loop-i.invariant)
      | else-eq w ↦
          w.points-is ∙ kept_more f from points i nowhere c.loop-i-test.true (ap (λ (b : Bool). cond b c.args.new p) (sym c.eq.ensures ∙ w.if-eq.false)) c.loop-i.invariant
    ]
