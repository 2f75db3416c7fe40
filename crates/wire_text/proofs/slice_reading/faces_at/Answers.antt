use Rattle.std.proofs.Common.{◌+◌, ◌∙◌, sym, arith}
use Rattle.std.proofs.lemmas.Result.{err_from_is_err_and}
use Rattle.line_forms.specs.Lines.{read_line}
use Rattle.wire_text.specs.SliceReading.{faces_at, read_face_row}
use Rattle.wire_text.specs.Reading.{bad_text}
use Rattle.wire_text.proofs.Each.{each_go_on, each_done}
use Rattle.wire_text.proofs.Loops.{line_found, line_refused, each_refused}
use Rattle.wire_text.proofs.LineForms.{face_small}
use Rattle.wire_text.proofs.slice_reading.faces_at.Goals as goal

pub returns-in_err-face : goal.returns-in_err-face
unfolding faces_at
returns-in_err-face c =
    let p = err_from_is_err_and c.from_residual.result c.from_residual.ensures.1 in
    let l = c.loop in
    let one = line_refused bad_text (read_face_row l.least) l.lines c.read_face.new.lines c.number.result c.read_face.result c.in_err-face.field-0.0 c.number.ensures c.in_err-face.ensures c.read_face.ensures in
    rw (p.1, p.2) (each_refused (λ k f. f.face + 1) (λ k. read_line bad_text (read_face_row k)) l.faces c.args.n l.counter l.least l.lines _ c.in_err-face.field-0.0 c.loop-test.true l.invariant.read one)

pub loop-preserved : goal.loop-preserved
unfolding faces_at
loop-preserved c =
    let l = c.loop in
    let one = line_found bad_text (read_face_row l.least) l.lines c.read_face.new.lines c.number.result c.read_face.result c.in_ok-face.face c.number.ensures c.in_ok-face.ensures c.read_face.ensures in
    record { read = rw (c.in_ok-push.ensures, c.from-least.ensures) (each_go_on (λ k f. f.face + 1) (λ k. read_line bad_text (read_face_row k)) l.faces c.args.n l.counter l.least l.lines c.in_ok-face.face c.read_face.new.lines c.loop-test.true one ∙ l.invariant.read); small = omega (arith, c.from-least.ensures, face_small bad_text l.least l.lines (c.in_ok-face.face, c.read_face.new.lines) one) }

pub returns : goal.returns
unfolding faces_at
returns c =
    let l = c.loop in
    sym l.invariant.read ∙ each_done (λ k f. f.face + 1) (λ k. read_line bad_text (read_face_row k)) l.faces c.args.n l.counter l.least l.lines c.loop-test.false
