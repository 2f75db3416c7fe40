-- The reply with the number of the version that was published.
use Rattle.std.proofs.Common.{◌∙◌, ap}
use Rattle.session.specs.Answers.{plain}
use Rattle.session.specs.Outcomes.{sent}
use Rattle.session.proofs.Edits.{if_ok}
use Rattle.session.proofs.edit.published_reply.Goals as goal

pub returns : goal.returns
returns c =
    if_ok c.sent.result _ _ (λ reply is. is ∙ ap (sent c.args.number c.args.close) (c.plain.ensures ∙ ap (plain 200) c.in_ok-body.ensures)) c.sent.ensures
