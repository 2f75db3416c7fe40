use Rattle.window_laws.proofs.WindowSteps.{window_undo_goes_back}
use Rattle.window_laws.proofs.steps.window_undo_goes_back.Goals as goal

pub returns : goal.returns
returns c = window_undo_goes_back
