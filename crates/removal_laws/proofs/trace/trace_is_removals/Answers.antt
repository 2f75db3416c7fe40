use Rattle.removal_laws.proofs.Tracing.{trace_is_removals}
use Rattle.removal_laws.proofs.trace.trace_is_removals.Goals as goal

pub returns : goal.returns
returns c = trace_is_removals
