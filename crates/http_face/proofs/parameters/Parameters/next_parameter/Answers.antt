use Rattle.std.proofs.Common.{◌==◌, length, sym, ap, ◌∙◌, true≢false}
use Rattle.http_face.proofs.parameters.Parameters.next_parameter.Goals as goal

pub invariant_of-self : goal.invariant_of-self
invariant_of-self c =
    absurd (true≢false (sym (ap (λ left. length left == 0) c.in_err-parameter.ensures.steps) ∙ sym c.is_empty.ensures ∙ c.if-is_empty.false))
