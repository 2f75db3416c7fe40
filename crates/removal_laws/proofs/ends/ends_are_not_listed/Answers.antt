use Rattle.removal_laws.proofs.EndsStay.{ends_are_not_listed}
use Rattle.removal_laws.proofs.ends.ends_are_not_listed.Goals as goal

pub returns : goal.returns
returns c = ends_are_not_listed
