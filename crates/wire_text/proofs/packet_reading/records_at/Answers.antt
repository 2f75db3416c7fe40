use Rattle.std.proofs.Common.{◌-◌, ◌∙◌, sym}
use Rattle.std.proofs.lemmas.Result.{err_from_is_err_and}
use Rattle.wire_text.specs.SliceReading.{records_at, record_at}
use Rattle.wire_text.specs.Reading.{bad_text}
use Rattle.wire_text.proofs.Each.{each_go_on, each_done}
use Rattle.wire_text.proofs.Loops.{each_refused}
use Rattle.wire_text.proofs.packet_reading.records_at.Goals as goal

pub returns-in_err-record : goal.returns-in_err-record
unfolding records_at
returns-in_err-record c =
    let p = err_from_is_err_and c.from_residual.result c.from_residual.ensures.1 in
    let l = c.loop in
    let one = c.in_err-record.ensures in
    rw (p.1, p.2) (each_refused (λ k r. k - 1) (record_at bad_text) l.records c.args.n l.counter l.step l.lines _ c.in_err-record.field-0.0 c.loop-test.true l.invariant one)

pub loop-preserved : goal.loop-preserved
unfolding records_at
loop-preserved c =
    let l = c.loop in
    let one = c.in_ok-record.ensures in
    rw (c.in_ok-push.ensures, c.saturating_sub-step.ensures) (each_go_on (λ k r. k - 1) (record_at bad_text) l.records c.args.n l.counter l.step l.lines c.in_ok-record.record c.read_record.new.lines c.loop-test.true one ∙ l.invariant)

pub returns : goal.returns
unfolding records_at
returns c =
    let l = c.loop in
    sym l.invariant ∙ each_done (λ k r. k - 1) (record_at bad_text) l.records c.args.n l.counter l.step l.lines c.loop-test.false
