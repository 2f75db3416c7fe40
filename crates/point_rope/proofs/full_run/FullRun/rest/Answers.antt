use Rattle.std.proofs.Common.{◌≡◌, drop, List, sym, ap, ◌∙◌, subst}
use Rattle.tgap_model.specs.declared.geometry.Point.{Point}
use Rattle.point_rope.specs.Rows.{IsRun, IsSummary}
use Rattle.point_rope.proofs.Rests.{summary_rest}
use Rattle.point_rope.proofs.full_run.FullRun.rest.Goals as goal

pub returns : goal.returns
returns c =
    let points = c.args.self.now in
    let same = c.deref.ensures.value ∙ c.self.view_is in
    let run = subst (λ (ps : List Point). IsRun ps c.args.place c.rest_of.result) same c.rest_of.ensures.run in
    let all : c.rest_of.result.points.now ≡ drop c.args.place points = c.rest_of.ensures.all ∙ ap (drop c.args.place) same in
    record {
      there = run.there;
      some = run.some;
      known = subst (λ (ps : List Point). IsSummary ps c.summary.result) (sym all) (summary_rest points c.args.place c.summary.result c.summary.ensures);
    }
