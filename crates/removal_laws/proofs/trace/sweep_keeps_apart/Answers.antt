use Rattle.removal_laws.proofs.Tracing.{sweep_keeps_apart}
use Rattle.removal_laws.proofs.trace.sweep_keeps_apart.Goals as goal

pub returns : goal.returns
returns c = sweep_keeps_apart
