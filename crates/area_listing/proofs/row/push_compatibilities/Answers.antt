use Rattle.std.proofs.Common.{◌∙◌, sym, ap}
use Rattle.std.specs.Option.{ok_or}
use Rattle.std.proofs.lemmas.Result.{err_from_is_err_and}
use Rattle.tgap_model.specs.declared.fault.MapFault.TheVariants.{BadLine}
use Rattle.tgap_model.specs.declared.failure.Or.TheVariants.{Fault}
use Rattle.tgap_model.specs.declared.limits.TheConstants.{MAX_COMPATIBILITY}
use Rattle.line_forms.specs.Words.{natural_at}
use Rattle.plain_io.proofs.Loops.{reads, found, missing, refused_at}
use Rattle.area_listing.proofs.Loops.{numbers_go_on, numbers_stop, numbers_done}
use Rattle.area_listing.proofs.row.push_compatibilities.Goals as goal

pub returns-in_err-value : goal.returns-in_err-value
returns-in_err-value c =
    let p = err_from_is_err_and c.from_residual.result c.from_residual.ensures.1 in
    let read = reads c.natural_at.result c.loop.words c.natural_at.new.words (natural_at 0 MAX_COMPATIBILITY c.loop.words) c.natural_at.ensures.taken in
    let none = missing c.natural_at.result c.in_err-value.field-0.0 (Fault (BadLine c.args.line)) c.natural_at.new.words (natural_at 0 MAX_COMPATIBILITY c.loop.words) c.in_err-value.ensures read in
    rw (p.1, p.2) (refused_at c.in_err-value.field-0.0 (BadLine c.args.line) _ none.0 (sym c.loop.invariant ∙ numbers_stop 0 MAX_COMPATIBILITY c.loop.compat c.args.n c.loop.counter c.loop.words c.loop-test.true none.1))

pub loop-preserved : goal.loop-preserved
loop-preserved c =
    let read = reads c.natural_at.result c.loop.words c.natural_at.new.words (natural_at 0 MAX_COMPATIBILITY c.loop.words) c.natural_at.ensures.taken in
    let one = found c.natural_at.result c.in_ok-value.value c.natural_at.new.words (natural_at 0 MAX_COMPATIBILITY c.loop.words) (Fault (BadLine c.args.line)) c.in_ok-value.ensures read in
    rw c.in_ok-push.ensures (numbers_go_on 0 MAX_COMPATIBILITY c.loop.compat c.args.n c.loop.counter c.loop.words c.in_ok-value.value c.natural_at.new.words c.loop-test.true one ∙ c.loop.invariant)

pub returns : goal.returns
returns c = ap (λ read. ok_or read (BadLine c.args.line)) (sym c.loop.invariant ∙ numbers_done 0 MAX_COMPATIBILITY c.loop.compat c.args.n c.loop.counter c.loop.words c.loop-test.false)
