use Rattle.std.proofs.Common.{pos, Option, IfSome, get_or, refl, sym, ◌∙◌, subst}
use Rattle.std.proofs.lemmas.List.{get_or_default}
use Rattle.tgap_model.specs.declared.geometry.Point.{Point}
use Rattle.tgap_model.proofs.Points.{same_point-true}
use Rattle.point_rope.specs.declared.run.Summary.{Summary}
use Rattle.point_rope.specs.Rows.{IsSummary}
use Rattle.vertex_drop.proofs.Small.{wide_area}
use Rattle.vertex_drop.proofs.Walked.{all_large}
use Rattle.vertex_drop.proofs.rows.passed_box.Goals as goal

pub returns-then-not-may_go-clause-first : goal.returns-then-not-may_go-clause-first
returns-then-not-may_go-clause-first c d =
    let o : Point = record { x = pos 0; y = pos 0 } in
    let run = c.args.run.points.now in
    same_point-true c.args.a (get_or run 0 o) (sym c.is_same.ensures ∙ c.if-is_same.true) ∙ get_or_default run 0 o d c.requires.some

pub returns-then-not-may_go-clause-large : goal.returns-then-not-may_go-clause-large
returns-then-not-may_go-clause-large c =
    let rule = c.args.rule in
    let summary = c.in_ok-summary.summary in
    let known : IsSummary c.args.run.points.now summary = subst (λ (s : Option Summary). IfSome s (IsSummary c.args.run.points.now)) c.in_ok-summary.was c.requires.known in
    let least = wide_area (pos summary.least) summary.least refl known.small in
    all_large rule c.args.run.points.now summary known
    (sym (c.may_go.ensures summary.least least) ∙ c.if-not-may_go.true)
