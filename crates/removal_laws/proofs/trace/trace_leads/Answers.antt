use Rattle.removal_laws.proofs.Tracing.{trace_leads}
use Rattle.removal_laws.proofs.trace.trace_leads.Goals as goal

pub returns : goal.returns
returns c = trace_leads
