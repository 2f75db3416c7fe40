use Rattle.step_laws.proofs.NodesKept.{replaced_agrees_round}
use Rattle.step_laws.proofs.nodes.replaced_agrees_round.Goals as goal

pub returns : goal.returns
returns c = replaced_agrees_round
