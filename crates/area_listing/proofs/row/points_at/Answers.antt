use Rattle.std.proofs.Common.{◌∙◌, sym, ap}
use Rattle.std.specs.Option.{ok_or}
use Rattle.std.proofs.lemmas.Result.{err_from_is_err_and}
use Rattle.tgap_model.specs.declared.fault.MapFault.TheVariants.{BadLine}
use Rattle.tgap_model.specs.declared.failure.Or.TheVariants.{Fault}
use Rattle.map_forms.specs.Version.{coordinate_of}
use Rattle.area_listing.specs.Reading.{point_at}
use Rattle.plain_io.proofs.Loops.{found, missing, refused_at}
use Rattle.area_listing.proofs.Loops.{points_go_on, points_stop, points_done}
use Rattle.area_listing.proofs.row.points_at.Goals as goal

pub returns-in_err-point : goal.returns-in_err-point
returns-in_err-point c =
    let p = err_from_is_err_and c.from_residual-in_err-point.result c.from_residual-in_err-point.ensures.1 in
    let none = missing c.point_at.result c.in_err-point.field-0.0 (Fault (BadLine c.args.line)) c.point_at.new.words (point_at (coordinate_of c.args.version) c.loop.words) c.in_err-point.ensures c.point_at.ensures in
    rw (p.1, p.2) (refused_at c.in_err-point.field-0.0 (BadLine c.args.line) _ none.0 (sym c.loop.invariant ∙ points_stop (coordinate_of c.args.version) c.loop.points c.args.n c.loop.counter c.loop.words c.loop-test.true none.1))

pub loop-preserved : goal.loop-preserved
loop-preserved c =
    let one = found c.point_at.result c.in_ok-point.point c.point_at.new.words (point_at (coordinate_of c.args.version) c.loop.words) (Fault (BadLine c.args.line)) c.in_ok-point.ensures c.point_at.ensures in
    rw c.in_ok-push.ensures (points_go_on (coordinate_of c.args.version) c.loop.points c.args.n c.loop.counter c.loop.words c.in_ok-point.point c.point_at.new.words c.loop-test.true one ∙ c.loop.invariant)

pub returns : goal.returns
returns c = ap (λ read. ok_or read (BadLine c.args.line)) (sym c.loop.invariant ∙ points_done (coordinate_of c.args.version) c.loop.points c.args.n c.loop.counter c.loop.words c.loop-test.false)
