-- A packet of a window that there is, and the word for steps that there are not.
use Rattle.std.proofs.Common.{Err, ap, sym, ◌∙◌}
use Rattle.line_forms.specs.Texts.{step_too_high_text}
use Rattle.wire_text.specs.SliceTexts.{window_packet_text}
use Rattle.session.specs.Answers.{plain}
use Rattle.session.proofs.Steps.{at_step_there, at_step_above, gave_packet, finer_answer}
use Rattle.session.proofs.window_packet.ordered_window_packet_answer.Goals as goal

pub returns-in_ok-window_packet_text-in-Ok-clause-exact : goal.returns-in_ok-window_packet_text-in-Ok-clause-exact
returns-in_ok-window_packet_text-in-Ok-clause-exact c =
    let there = gave_packet c.window_packet.result c.in-Ok.packet _ _ _ c.in-Ok.is c.window_packet.ensures.coarser c.window_packet.ensures.high in
    c.plain.ensures ∙ ap (plain 200) (c.in_ok-window_packet_text-in-Ok.ensures ∙ ap window_packet_text c.in-Ok.ensures.exact)
    ∙ sym (at_step_there _ _ _ there.1) ∙ sym (finer_answer _ _ _ _ there.0)

pub returns-in_ok-step_too_high_text-in-Err-StepTooHigh-clause-exact : goal.returns-in_ok-step_too_high_text-in-Err-StepTooHigh-clause-exact
returns-in_ok-step_too_high_text-in-Err-StepTooHigh-clause-exact c =
    let above = (c.window_packet.ensures.high c.in-Err-StepTooHigh.steps).0 (c.in-Err-StepTooHigh.is ∙ ap Err c.in-Err-StepTooHigh.field-0-is) in
    c.plain-in-Err-StepTooHigh.ensures ∙ ap (plain 400) (c.in_ok-step_too_high_text-in-Err-StepTooHigh.ensures ∙ ap step_too_high_text above.2)
    ∙ sym (at_step_above _ _ _ above.1) ∙ sym (finer_answer _ _ _ _ above.0)
