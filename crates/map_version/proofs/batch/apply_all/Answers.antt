use Rattle.std.proofs.Common.{◌∙◌, ℕ, Result, Err, sym, ap, subst}
use Rattle.tgap_model.specs.Base.{BaseMap}
use Rattle.line_forms.specs.Lines.{Lines, is_over}
use Rattle.edit_laws.specs.Edits.{edit_rows}
use Rattle.map_version.specs.Faults.{GivesEdited}
use Rattle.map_version.proofs.Batches.{line_taken, line_applied, line_refused, over_gives, refused_with}
use Rattle.map_version.proofs.batch.apply_all.Goals as goal

pub loop-words-preserved : goal.loop-words-preserved
loop-words-preserved c = (
  c.loop-words.invariant.0 ∙ line_applied c.loop-words.lines c.in-Some.words c.next_line.new.self c.loop-words.draft c.in-Ok.next c.in-Some.ensures c.in-Ok.ensures,
  c.number-number-in-Some.ensures,
  (line_taken c.loop-words.lines c.in-Some.words c.next_line.new.self c.in-Some.ensures).some,
)

pub returns-in-Err : goal.returns-in-Err
returns-in-Err c =
    let whole = edit_rows c.args.lines.now.number c.args.lines.now.rows c.args.draft in
    subst (λ e. GivesEdited {X = BaseMap} (Err e) whole) (sym c.at_line.ensures)
    (refused_with c.in-Err.cause c.loop-words.number _ whole c.in-Err.ensures
    (λ k e. c.loop-words.invariant.0 ∙ (line_refused c.loop-words.lines c.in-Some.words c.next_line.new.self c.loop-words.draft k c.in-Some.ensures e
    ∙ ap (λ (n : ℕ). let fault : ℕ × ℕ = (n, k) in let wrong : Result BaseMap (ℕ × ℕ) = Err fault in wrong) (sym c.loop-words.invariant.1))))

pub returns-then-is_over : goal.returns-then-is_over
returns-then-is_over c =
    c.loop-words.invariant.0
    ∙ over_gives c.loop-words.lines c.loop-words.draft _ c.loop-words.invariant.2 c.in_default.ensures.0
    (ap (λ (x : Lines). is_over x.rows) (sym c.in_default.ensures.1) ∙ (sym c.is_over.ensures ∙ c.if-is_over.true))

pub returns : goal.returns
returns c =
    let whole = edit_rows c.args.lines.now.number c.args.lines.now.rows c.args.draft in
    subst (λ e. GivesEdited {X = BaseMap} (Err e) whole) (sym c.at_line-else-is_over.ensures)
    (c.loop-words.invariant.0
    ∙ (over_gives c.loop-words.lines c.loop-words.draft _ c.loop-words.invariant.2 c.in_default.ensures.0
    (ap (λ (x : Lines). is_over x.rows) (sym c.in_default.ensures.1) ∙ (sym c.is_over.ensures ∙ c.if-is_over.false))
    ∙ ap (λ (n : ℕ). let fault : ℕ × ℕ = (n, 1) in let wrong : Result BaseMap (ℕ × ℕ) = Err fault in wrong) (sym c.loop-words.invariant.1)))
