use Rattle.std.proofs.Common.{List, sym, ap, ◌∙◌}
use Rattle.std.specs.List.{list_any}
use Rattle.tgap_model.specs.declared.geometry.Point.{Point}
use Rattle.point_rope.proofs.Joined.{any_joined, none_joined}
use Rattle.point_rope.proofs.over_runs.any_has.Goals as goal

pub returns-then-has_any : goal.returns-then-has_any
returns-then-has_any g c =
    let test = g.T.PointTest.passes c.args.test.now in
    sym (any_joined test c.args.runs.now c.loop-run.run-index c.run-item.result c.loop-run-test.true
    (ap (λ (ps : List Point). list_any test ps) (sym c.run-item.is) ∙ sym c.has_any.ensures ∙ c.if-has_any.true))

pub loop-run-preserved : goal.loop-run-preserved
loop-run-preserved g c =
    let test = g.T.PointTest.passes c.args.test.now in
    none_joined test c.args.runs.now c.loop-run.run-index c.run-item.result c.loop-run-test.true c.loop-run.invariant
    (ap (λ (ps : List Point). list_any test ps) (sym c.run-item.is) ∙ sym c.has_any.ensures ∙ c.if-has_any.false)
