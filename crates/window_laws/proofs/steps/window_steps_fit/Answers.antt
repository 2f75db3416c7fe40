use Rattle.window_laws.proofs.WindowSteps.{window_steps_fit}
use Rattle.window_laws.proofs.steps.window_steps_fit.Goals as goal

pub returns : goal.returns
returns c = window_steps_fit
