use Rattle.connection_laws.proofs.OutcomeSteps.{outcomes_are_steps}
use Rattle.connection_laws.proofs.steps.outcomes_are_steps.Goals as goal

pub returns : goal.returns
returns c = outcomes_are_steps
