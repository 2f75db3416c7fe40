use Rattle.std.proofs.Common.{◌+◌, ◌∙◌, sym, arith}
use Rattle.std.proofs.lemmas.Result.{err_from_is_err_and}
use Rattle.wire_text.specs.SliceReading.{edges_at, edge_at}
use Rattle.wire_text.specs.Reading.{bad_text}
use Rattle.wire_text.proofs.Each.{each_go_on, each_done}
use Rattle.wire_text.proofs.Loops.{each_refused}
use Rattle.wire_text.proofs.LineForms.{edge_small}
use Rattle.wire_text.proofs.slice_reading.edges_at.Goals as goal

pub returns-in_err-edge : goal.returns-in_err-edge
unfolding edges_at
returns-in_err-edge c =
    let p = err_from_is_err_and c.from_residual.result c.from_residual.ensures.1 in
    let l = c.loop in
    let one = c.in_err-edge.ensures in
    rw (p.1, p.2) (each_refused (λ k e. e.key + 1) (edge_at bad_text) l.edges c.args.n l.counter l.least l.lines _ c.in_err-edge.field-0.0 c.loop-test.true l.invariant.read one)

pub loop-preserved : goal.loop-preserved
unfolding edges_at
loop-preserved c =
    let l = c.loop in
    let one = c.in_ok-edge.ensures in
    record { read = rw (c.in_ok-push.ensures, c.from-least.ensures) (each_go_on (λ k e. e.key + 1) (edge_at bad_text) l.edges c.args.n l.counter l.least l.lines c.in_ok-edge.edge c.read_edge.new.lines c.loop-test.true one ∙ l.invariant.read); small = omega (arith, c.from-least.ensures, edge_small bad_text l.least l.lines (c.in_ok-edge.edge, c.read_edge.new.lines) one) }

pub returns : goal.returns
unfolding edges_at
returns c =
    let l = c.loop in
    sym l.invariant.read ∙ each_done (λ k e. e.key + 1) (edge_at bad_text) l.edges c.args.n l.counter l.least l.lines c.loop-test.false
