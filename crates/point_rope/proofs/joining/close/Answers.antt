use Rattle.std.proofs.Common.{◌++◌, List, sym, ap, ◌∙◌, arith}
use Rattle.std.proofs.lemmas.Bool.{eqb-true}
use Rattle.std.proofs.lemmas.List.{append-nil, nil_from_length}
use Rattle.std.proofs.lemmas.Result.{on_ok_weaker}
use Rattle.tgap_model.specs.declared.geometry.Point.{Point}
use Rattle.point_rope.specs.Runs.{joined}
use Rattle.point_rope.proofs.Joined.{pushed_if}
use Rattle.point_rope.proofs.joining.close.Goals as goal

pub returns-then-is_empty-clause-row : goal.returns-then-is_empty-clause-row
returns-then-is_empty-clause-row c =
    let full = joined c.args.full.now in
    let empty = eqb-true c.args.last.now.len 0 (sym c.is_empty.ensures ∙ c.if-is_empty.true) in
    let none = nil_from_length c.args.last.now.items (omega (arith, empty, c.args.last.now.ok.0)) in
    sym (ap (λ (ps : List Point). full ++ ps) none ∙ append-nil full)

pub returns-then-is_empty-clause-last : goal.returns-then-is_empty-clause-last
returns-then-is_empty-clause-last c =
    let empty = eqb-true c.args.last.now.len 0 (sym c.is_empty.ensures ∙ c.if-is_empty.true) in
    nil_from_length c.args.last.now.items (omega (arith, empty, c.args.last.now.ok.0))

pub returns-clause-row : goal.returns-clause-row
returns-clause-row c =
    let full = c.args.full.now in
    let piece = c.of.ensures ∙ ap (λ v. v.items) c.replace-points.ensures.value in
    on_ok_weaker c.push.result (λ h. h ∙ ap (λ (ps : List Point). joined full ++ ps) piece) (pushed_if c.push.result c.push.new.self full c.of.result c.push.ensures)
