use Rattle.version_store.proofs.Acknowledged.{outlasts_crash, outlasts_crash_within}
use Rattle.version_store.proofs.promise.crash_at_any_moment.Goals as goal

pub returns-clause-between : goal.returns-clause-between
returns-clause-between g c = outlasts_crash

pub returns-clause-within : goal.returns-clause-within
returns-clause-within g c = outlasts_crash_within
