use Rattle.std.proofs.Common.{◌∙◌, sym}
use Rattle.std.proofs.lemmas.Result.{err_from_is_err_and}
use Rattle.tgap_model.specs.declared.fault.MapFault.TheVariants.{BadLine}
use Rattle.line_forms.specs.Lines.{read_line}
use Rattle.line_forms.specs.ListingLines.{read_class}
use Rattle.area_listing.specs.Reading.{class_onto}
use Rattle.plain_io.proofs.Loops.{refused}
use Rattle.area_listing.proofs.Loops.{classes_go_on, classes_stop, classes_done}
use Rattle.area_listing.proofs.section.classes_at.Goals as goal

pub returns-in_err-weight : goal.returns-in_err-weight
returns-in_err-weight c =
    let p = err_from_is_err_and c.from_residual-in_err-weight.result c.from_residual-in_err-weight.ensures.1 in
    let l = c.loop-class in
    rw (p.1, p.2) (refused c.in_err-weight.field-0.0 (class_onto l.compat (read_line BadLine (read_class c.args.n l.class) l.lines)) _ (λ f e. sym l.invariant ∙ classes_stop l.weights l.compat c.args.n l.class l.lines f c.loop-class-test.true e) c.in_err-weight.ensures)

pub loop-class-preserved : goal.loop-class-preserved
loop-class-preserved c =
    let l = c.loop-class in
    rw c.in_ok-push.ensures (classes_go_on l.weights l.compat c.args.n l.class l.lines c.in_ok-weight.weight c.read_class.new.compat c.read_class.new.lines c.loop-class-test.true c.in_ok-weight.ensures ∙ l.invariant)

pub returns : goal.returns
returns c =
    let l = c.loop-class in
    sym l.invariant ∙ classes_done l.weights l.compat c.args.n l.class l.lines c.loop-class-test.false
