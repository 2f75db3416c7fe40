use Rattle.connection_laws.proofs.OutcomeSteps.{conversations_are_steps}
use Rattle.connection_laws.proofs.steps.conversations_are_steps.Goals as goal

pub returns : goal.returns
returns c = conversations_are_steps
