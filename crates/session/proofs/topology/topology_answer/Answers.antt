-- A topology of a step that there is, and the word for one that there is not.
use Rattle.std.proofs.Common.{IfOk, Err, ap, sym, ◌≡◌, ◌∙◌, subst}
use Rattle.tgap_model.specs.Base.{BaseMap}
use Rattle.line_forms.specs.Texts.{step_too_high_text}
use Rattle.session.specs.declared.answer.Answer.{Answer}
use Rattle.session.specs.Answers.{plain}
use Rattle.session.proofs.Steps.{in_history_above, gave}
use Rattle.session.proofs.Topologies.{topology_is}
use Rattle.session.proofs.topology.topology_answer.Goals as goal

pub known_ends-requires : goal.known_ends-requires
known_ends-requires c = gave c.slice_after.result c.in-Ok.slice _ _ c.in-Ok.is c.slice_after.ensures.high

pub returns-in_ok-ends-in-Ok-clause-exact : goal.returns-in_ok-ends-in-Ok-clause-exact
returns-in_ok-ends-in-Ok-clause-exact c =
    let m = c.args.built.now in
    let there = gave c.slice_after.result c.in-Ok.slice _ _ c.in-Ok.is c.slice_after.ensures.high in
    let transform = c.transform.ensures.value ∙ ap (λ (b : BaseMap). b.transform) c.base.ensures.value in
    subst (λ (x : Answer). IfOk c.exported.result (λ a. a ≡ x))
    (topology_is m c.args.step c.in-Ok.slice c.in_ok-ends-in-Ok.ends c.transform.result.now there
    c.in-Ok.ensures.exact c.in_ok-ends-in-Ok.ensures.exact transform)
    c.exported.ensures.exact

pub returns-in_ok-step_too_high_text-in-Err-StepTooHigh-clause-exact : goal.returns-in_ok-step_too_high_text-in-Err-StepTooHigh-clause-exact
returns-in_ok-step_too_high_text-in-Err-StepTooHigh-clause-exact c =
    let above = (c.slice_after.ensures.high c.in-Err-StepTooHigh.steps).0 (c.in-Err-StepTooHigh.is ∙ ap Err c.in-Err-StepTooHigh.field-0-is) in
    c.plain.ensures ∙ ap (plain 400) (c.in_ok-step_too_high_text-in-Err-StepTooHigh.ensures ∙ ap step_too_high_text above.1)
    ∙ sym (in_history_above _ _ _ above.0)
