use Rattle.std.proofs.Common.{◌+◌, ◌∙◌, sym, ap}
use Rattle.std.specs.Option.{ok_or}
use Rattle.std.proofs.lemmas.Result.{err_from_is_err_and}
use Rattle.tgap_model.specs.declared.fault.MapFault.TheVariants.{BadLine}
use Rattle.tgap_model.specs.declared.failure.Or.TheVariants.{Fault}
use Rattle.line_forms.specs.Lines.{read_row, read_line}
use Rattle.line_forms.specs.ListingLines.{read_face}
use Rattle.plain_io.proofs.Loops.{found, missing, refused, refused_at}
use Rattle.area_listing.proofs.Loops.{faces_go_on, faces_stop, faces_done}
use Rattle.area_listing.proofs.section.faces_at.Goals as goal

pub returns-in_err-class : goal.returns-in_err-class
returns-in_err-class c =
    let p = err_from_is_err_and c.from_residual-in_err-class.result c.from_residual-in_err-class.ensures.1 in
    let l = c.loop-before in
    let read = read_row (read_face c.args.classes (l.before + 1)) l.lines in
    let taken = rw c.number.ensures at c.in_err-class.ensures in
    let none = missing c.read_face.result c.in_err-class.field-0.0 (Fault (BadLine l.lines.number)) c.read_face.new.lines read taken c.read_face.ensures in
    rw (p.1, p.2) (refused c.in_err-class.field-0.0 (read_line BadLine (read_face c.args.classes (l.before + 1)) l.lines) _ (λ f e. sym l.invariant ∙ faces_stop c.args.classes l.all c.args.n l.before l.lines f c.loop-before-test.true e)
    (refused_at c.in_err-class.field-0.0 (BadLine l.lines.number) read none.0 none.1))

pub loop-before-preserved : goal.loop-before-preserved
loop-before-preserved c =
    let l = c.loop-before in
    let read = read_row (read_face c.args.classes (l.before + 1)) l.lines in
    let taken = rw c.number.ensures at c.in_ok-class.ensures in
    let one = ap (λ r. ok_or r (BadLine l.lines.number)) (found c.read_face.result c.in_ok-class.class c.read_face.new.lines read (Fault (BadLine l.lines.number)) taken c.read_face.ensures) in
    rw c.in_ok-push.ensures (faces_go_on c.args.classes l.all c.args.n l.before l.lines c.in_ok-class.class c.read_face.new.lines c.loop-before-test.true one ∙ l.invariant)

pub returns : goal.returns
returns c = sym c.loop-before.invariant ∙ faces_done c.args.classes c.loop-before.all c.args.n c.loop-before.before c.loop-before.lines c.loop-before-test.false
