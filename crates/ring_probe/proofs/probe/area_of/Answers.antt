use Rattle.std.proofs.Common.{◌≤◌, ◌∙◌, ℤ, neg_ℤ, unsigned_abs, sym, ap, subst}
use Rattle.tgap_model.specs.Bounds.{max_arc_area}
use Rattle.tgap_model.specs.Point.{shoelace}
use Rattle.ring_walk.specs.declared.side.Way.{Way}
use Rattle.ring_walk.specs.Areas.{points_by}
use Rattle.ring_probe.proofs.Turned.{line_size, minus_fits, minus_is, minus_size, shoelace-reverse, size_kept}
use Rattle.ring_probe.proofs.probe.area_of.Goals as goal

pub overflow_sub-result : goal.overflow_sub-result
overflow_sub-result c = minus_fits c.shoelace-sum.result (subst (λ (z : ℤ). unsigned_abs z ≤ max_arc_area) (sym c.shoelace-sum.ensures) (line_size c.args.points.now c.requires))

pub returns-in-Along-clause-size : goal.returns-in-Along-clause-size
returns-in-Along-clause-size c = size_kept c.shoelace-sum.result (subst (λ (z : ℤ). unsigned_abs z ≤ max_arc_area) (sym c.shoelace-sum.ensures) (line_size c.args.points.now c.requires))

pub returns-in-Against-clause-value : goal.returns-in-Against-clause-value
returns-in-Against-clause-value c =
    let size = subst (λ (z : ℤ). unsigned_abs z ≤ max_arc_area) (sym c.shoelace-sum.ensures) (line_size c.args.points.now c.requires) in
    minus_is c.shoelace-sum.result size ∙ ap (λ (z : ℤ). neg_ℤ z) c.shoelace-sum.ensures ∙ sym (shoelace-reverse c.args.points.now)
    ∙ ap (λ (w : Way). shoelace (points_by w c.args.points.now)) (sym c.in-Against.is)

pub returns-in-Against-clause-size : goal.returns-in-Against-clause-size
returns-in-Against-clause-size c =
    let size = subst (λ (z : ℤ). unsigned_abs z ≤ max_arc_area) (sym c.shoelace-sum.ensures) (line_size c.args.points.now c.requires) in
    subst (λ (z : ℤ). unsigned_abs z ≤ max_arc_area) (sym (minus_is c.shoelace-sum.result size)) (minus_size c.shoelace-sum.result size)
