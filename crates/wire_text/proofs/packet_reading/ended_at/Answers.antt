use Rattle.std.proofs.Common.{◌∙◌, sym}
use Rattle.std.proofs.lemmas.Result.{err_from_is_err_and}
use Rattle.wire_text.specs.SliceReading.{ended_at, edge_at}
use Rattle.wire_text.specs.Reading.{bad_text}
use Rattle.wire_text.proofs.Each.{each_go_on, each_done}
use Rattle.wire_text.proofs.Loops.{each_refused}
use Rattle.wire_text.proofs.packet_reading.ended_at.Goals as goal

pub returns-in_err-edge : goal.returns-in_err-edge
unfolding ended_at
returns-in_err-edge c =
    let p = err_from_is_err_and c.from_residual.result c.from_residual.ensures.1 in
    let l = c.loop in
    let one = c.in_err-edge.ensures in
    rw (p.1, p.2) (each_refused (λ k e. k) (edge_at bad_text) l.edges c.args.n l.counter 0 l.lines _ c.in_err-edge.field-0.0 c.loop-test.true l.invariant one)

pub loop-preserved : goal.loop-preserved
unfolding ended_at
loop-preserved c =
    let l = c.loop in
    let one = c.in_ok-edge.ensures in
    rw c.in_ok-push.ensures (each_go_on (λ k e. k) (edge_at bad_text) l.edges c.args.n l.counter 0 l.lines c.in_ok-edge.edge c.read_edge.new.lines c.loop-test.true one ∙ l.invariant)

pub returns : goal.returns
unfolding ended_at
returns c =
    let l = c.loop in
    sym l.invariant ∙ each_done (λ k e. k) (edge_at bad_text) l.edges c.args.n l.counter 0 l.lines c.loop-test.false
