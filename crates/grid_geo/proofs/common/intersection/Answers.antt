-- The crossing is on both lines, so the places of the ends decide.
use Rattle.std.proofs.Common.{◌≡◌, Bool, ◌&&◌, cond, Some, None, false, sym, ap, ◌∙◌}
use Rattle.std.proofs.lemmas.Bool.{and_from, and_left, and_right}
use Rattle.grid_geo.specs.Within.{is_within}
use Rattle.grid_geo.proofs.Crossing.{intersection_by_ends}
use Rattle.grid_geo.proofs.common.intersection.Goals as goal
use Rattle.grid_geo.proofs.common.intersection.Goals.{else-is_within-via-then-is_within+else-is_within-2, else-is_within-via-else-is_within}

pub returns-then-is_within-2-clause-value : goal.returns-then-is_within-2-clause-value
returns-then-is_within-2-clause-value c =
    let p = c.crossing-p.result in
    sym (intersection_by_ends c.args.s c.args.t p c.crossing-p.ensures.value
    ∙ ap (λ (b : Bool). cond b (Some p) None) (and_from (is_within p c.args.s) (is_within p c.args.t) (sym c.is_within.ensures ∙ c.if-is_within.true) (sym c.is_within-then-is_within.ensures ∙ c.if-is_within-2.true)))

pub returns-else-is_within-clause-value : goal.returns-else-is_within-clause-value
returns-else-is_within-clause-value c =
    let p = c.crossing-p.result in
    let by_test = λ (e : (is_within p c.args.s && is_within p c.args.t) ≡ false). sym (intersection_by_ends c.args.s c.args.t p c.crossing-p.ensures.value ∙ ap (λ (b : Bool). cond b (Some p) None) e) in
    elim c.else-is_within.branch [
      | else-is_within-via-then-is_within+else-is_within-2 w ↦ by_test (and_right (is_within p c.args.s) (is_within p c.args.t) (sym w.is_within-then-is_within.ensures ∙ w.if-is_within-2.false))
      | else-is_within-via-else-is_within w ↦ by_test (and_left (is_within p c.args.s) (is_within p c.args.t) (sym c.is_within.ensures ∙ w.if-is_within.false))
    ]
