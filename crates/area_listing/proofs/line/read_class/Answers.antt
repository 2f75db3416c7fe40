use Rattle.std.proofs.Common.{sym, subst, Result, ℕ, List}
use Rattle.std.specs.Prelude.{codes}
use Rattle.std.proofs.lemmas.Result.{err_from_is_err_and}
use Rattle.tgap_model.specs.declared.fault.MapFault.TheVariants.{BadLine}
use Rattle.tgap_model.specs.declared.fault.MapFault.{MapFault}
use Rattle.tgap_model.specs.declared.failure.Or.TheVariants.{Fault}
use Rattle.tgap_model.specs.declared.limits.TheConstants.{MAX_WEIGHT, MAX_COMPATIBILITY}
use Rattle.line_forms.specs.Words.{after_word, after_count, natural_at}
use Rattle.line_forms.specs.Lines.{Lines, line_at}
use Rattle.line_forms.specs.ListingLines.{naturals_at}
use Rattle.plain_io.specs.Taking.{Refuses}
use Rattle.area_listing.specs.Reading.{class_onto}
use Rattle.plain_io.proofs.Loops.{reads, found, passed}
use Rattle.area_listing.proofs.Loops.{read_class_from, row_stops}
use Rattle.area_listing.proofs.line.read_class.Goals as goal

pub returns-in_err-push_compatibilities : goal.returns-in_err-push_compatibilities
returns-in_err-push_compatibilities c =
    let p = err_from_is_err_and c.from_residual-in_err-push_compatibilities.result c.from_residual-in_err-push_compatibilities.ensures.1 in
    let line = c.number-line.result in
    let bad = Fault (BadLine line) in
    let e1 = found c.next_line.result c.in_ok-words.words c.next_line.new.self (line_at c.args.lines.now) bad c.in_ok-words.ensures (reads _ _ _ _ c.next_line.ensures) in
    let e2 = passed c.after_word.result _ c.in_ok-words.words c.after_word.new.words (after_word (codes "class") c.in_ok-words.words) bad c.in_ok-at_line.ensures c.after_word.ensures in
    let e3 = passed c.after_count.result _ c.after_word.new.words c.after_count.new.words (after_count c.args.class c.after_word.new.words) bad c.in_ok-at_line-2.ensures c.after_count.ensures in
    let e4 = found c.natural_at.result c.in_ok-weight.weight c.natural_at.new.words (natural_at 1 MAX_WEIGHT c.after_count.new.words) bad c.in_ok-weight.ensures (reads _ _ _ _ c.natural_at.ensures.taken) in
    let whole = read_class_from c.args.classes c.args.class c.args.lines.now c.next_line.new.self line c.in_ok-words.words c.after_word.new.words c.after_count.new.words c.natural_at.new.words c.in_ok-weight.weight c.number-line.ensures e1 e2 e3 e4 in
    let f = c.in_err-push_compatibilities.field-0.0 in
    let stops = row_stops c.args.compat.now (naturals_at 0 MAX_COMPATIBILITY c.args.classes c.natural_at.new.words) c.in_ok-weight.weight line c.next_line.new.self f c.in_err-push_compatibilities.ensures in
    rw (p.1, p.2) (subst (λ (r : Result ((ℕ × List ℕ) × Lines) MapFault). Refuses f (class_onto c.args.compat.now r)) (sym whole) stops)
