use Rattle.std.proofs.Common.{◌∙◌, sym}
use Rattle.std.proofs.lemmas.Result.{err_from_is_err_and}
use Rattle.line_forms.specs.Lines.{read_line}
use Rattle.wire_text.specs.SliceReading.{puts_at, read_put}
use Rattle.wire_text.specs.Reading.{bad_text}
use Rattle.wire_text.proofs.Each.{each_go_on, each_done}
use Rattle.wire_text.proofs.Loops.{line_found, line_refused, each_refused}
use Rattle.wire_text.proofs.packet_reading.puts_at.Goals as goal

pub returns-in_err-put : goal.returns-in_err-put
unfolding puts_at
returns-in_err-put c =
    let p = err_from_is_err_and c.from_residual.result c.from_residual.ensures.1 in
    let l = c.loop in
    let one = line_refused bad_text read_put l.lines c.read_put.new.lines c.number.result c.read_put.result c.in_err-put.field-0.0 c.number.ensures c.in_err-put.ensures c.read_put.ensures in
    rw (p.1, p.2) (each_refused (λ k p. k) (λ k. read_line bad_text read_put) l.puts c.args.n l.counter 0 l.lines _ c.in_err-put.field-0.0 c.loop-test.true l.invariant one)

pub loop-preserved : goal.loop-preserved
unfolding puts_at
loop-preserved c =
    let l = c.loop in
    let one = line_found bad_text read_put l.lines c.read_put.new.lines c.number.result c.read_put.result c.in_ok-put.put c.number.ensures c.in_ok-put.ensures c.read_put.ensures in
    rw c.in_ok-push.ensures (each_go_on (λ k p. k) (λ k. read_line bad_text read_put) l.puts c.args.n l.counter 0 l.lines c.in_ok-put.put c.read_put.new.lines c.loop-test.true one ∙ l.invariant)

pub returns : goal.returns
unfolding puts_at
returns c =
    let l = c.loop in
    sym l.invariant ∙ each_done (λ k p. k) (λ k. read_line bad_text read_put) l.puts c.args.n l.counter 0 l.lines c.loop-test.false
