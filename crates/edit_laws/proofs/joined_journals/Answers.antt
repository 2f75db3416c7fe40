use Rattle.edit_laws.proofs.Joined.{journals_join}
use Rattle.edit_laws.proofs.joined_journals.Goals as goal

pub returns : goal.returns
returns c = journals_join
