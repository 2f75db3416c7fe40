use Rattle.window_laws.proofs.WindowEdges.{window_comes_are}
use Rattle.window_laws.proofs.steps.window_comes_are.Goals as goal

pub returns : goal.returns
returns c = window_comes_are
