use Rattle.edit_laws.proofs.Joined.{lists_join}
use Rattle.edit_laws.proofs.joined_lists.Goals as goal

pub returns : goal.returns
returns c = lists_join
