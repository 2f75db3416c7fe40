use Rattle.std.proofs.Common.{◌∙◌, sym, ap}
use Rattle.std.specs.Option.{ok_or}
use Rattle.std.proofs.lemmas.Result.{err_from_is_err_and}
use Rattle.tgap_model.specs.declared.failure.Or.TheVariants.{Fault}
use Rattle.edit_laws.specs.Edits.{point_at}
use Rattle.plain_io.proofs.Loops.{found, missing, refused_at}
use Rattle.map_version.proofs.PointRows.{point_more, point_missing, points_read}
use Rattle.map_version.proofs.line.points_at.Goals as goal

pub returns-in_err-point : goal.returns-in_err-point
returns-in_err-point c =
    let p = err_from_is_err_and c.from_residual.result c.from_residual.ensures.1 in
    let none = missing c.point_at.result c.in_err-point.field-0.0 (Fault 1) c.point_at.new.words (point_at c.loop.words) c.in_err-point.ensures c.point_at.ensures in
    rw (p.1, p.2) (refused_at c.in_err-point.field-0.0 1 _ none.0 (sym c.loop.invariant ∙ point_missing c.loop.points c.args.n c.loop.counter c.loop.words c.loop-test.true none.1))

pub loop-preserved : goal.loop-preserved
loop-preserved c =
    let one = found c.point_at.result c.in_ok-point.point c.point_at.new.words (point_at c.loop.words) (Fault 1) c.in_ok-point.ensures c.point_at.ensures in
    rw c.in_ok-push.ensures (point_more c.loop.points c.args.n c.loop.counter c.loop.words c.in_ok-point.point c.point_at.new.words c.loop-test.true one ∙ c.loop.invariant)

pub returns : goal.returns
returns c = ap (λ read. ok_or read 1) (sym c.loop.invariant ∙ points_read c.loop.points c.args.n c.loop.counter c.loop.words c.loop-test.false)
