use Rattle.removal_laws.proofs.Tracing.{trace_follows_rule}
use Rattle.removal_laws.proofs.trace.trace_follows_rule.Goals as goal

pub returns : goal.returns
returns c = trace_follows_rule
