use Rattle.picture_laws.proofs.WindowsJoin.{windows_join}
use Rattle.picture_laws.proofs.joining.windows_join.Goals as goal

pub returns : goal.returns
returns c = windows_join
