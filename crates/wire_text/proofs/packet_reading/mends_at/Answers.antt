use Rattle.std.proofs.Common.{◌∙◌, sym}
use Rattle.std.proofs.lemmas.Result.{err_from_is_err_and}
use Rattle.wire_text.specs.SliceReading.{mends_at, mend_at}
use Rattle.wire_text.specs.Reading.{bad_text}
use Rattle.wire_text.proofs.Each.{each_go_on, each_done}
use Rattle.wire_text.proofs.Loops.{each_refused}
use Rattle.wire_text.proofs.packet_reading.mends_at.Goals as goal

pub returns-in_err-mend : goal.returns-in_err-mend
unfolding mends_at
returns-in_err-mend c =
    let p = err_from_is_err_and c.from_residual.result c.from_residual.ensures.1 in
    let l = c.loop in
    let one = c.in_err-mend.ensures in
    rw (p.1, p.2) (each_refused (λ k m. k) (λ k. mend_at bad_text) l.mends c.args.n l.counter 0 l.lines _ c.in_err-mend.field-0.0 c.loop-test.true l.invariant one)

pub loop-preserved : goal.loop-preserved
unfolding mends_at
loop-preserved c =
    let l = c.loop in
    let one = c.in_ok-mend.ensures in
    rw c.in_ok-push.ensures (each_go_on (λ k m. k) (λ k. mend_at bad_text) l.mends c.args.n l.counter 0 l.lines c.in_ok-mend.mend c.read_mend.new.lines c.loop-test.true one ∙ l.invariant)

pub returns : goal.returns
unfolding mends_at
returns c =
    let l = c.loop in
    sym l.invariant ∙ each_done (λ k m. k) (λ k. mend_at bad_text) l.mends c.args.n l.counter 0 l.lines c.loop-test.false
