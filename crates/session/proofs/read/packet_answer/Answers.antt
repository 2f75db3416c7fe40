-- A packet that there is, and the word for steps that there are not.
use Rattle.std.proofs.Common.{Err, ap, sym, ◌∙◌}
use Rattle.line_forms.specs.Texts.{step_too_high_text}
use Rattle.session.specs.Answers.{plain}
use Rattle.session.proofs.Steps.{at_step_there, at_step_above, gave_packet, finer_answer}
use Rattle.session.proofs.read.packet_answer.Goals as goal

pub returns-in-Ok-clause-exact : goal.returns-in-Ok-clause-exact
returns-in-Ok-clause-exact c =
    let there = gave_packet c.packet_text_at.result c.in-Ok.text _ _ _ c.in-Ok.is c.packet_text_at.ensures.coarser c.packet_text_at.ensures.high in
    c.plain.ensures ∙ ap (plain 200) c.in-Ok.ensures.exact ∙ sym (at_step_there _ _ _ there.1) ∙ sym (finer_answer _ _ _ _ there.0)

pub returns-in_ok-step_too_high_text-in-Err-StepTooHigh-clause-exact : goal.returns-in_ok-step_too_high_text-in-Err-StepTooHigh-clause-exact
returns-in_ok-step_too_high_text-in-Err-StepTooHigh-clause-exact c =
    let above = (c.packet_text_at.ensures.high c.in-Err-StepTooHigh.steps).0 (c.in-Err-StepTooHigh.is ∙ ap Err c.in-Err-StepTooHigh.field-0-is) in
    c.plain-in-Err-StepTooHigh.ensures ∙ ap (plain 400) (c.in_ok-step_too_high_text-in-Err-StepTooHigh.ensures ∙ ap step_too_high_text above.2)
    ∙ sym (at_step_above _ _ _ above.1) ∙ sym (finer_answer _ _ _ _ above.0)
