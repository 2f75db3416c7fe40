use Rattle.step_laws.proofs.NodesKept.{sweep_keeps_nodes}
use Rattle.step_laws.proofs.nodes.sweep_keeps_nodes.Goals as goal

pub returns : goal.returns
returns c = sweep_keeps_nodes
