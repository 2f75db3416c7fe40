use Rattle.removal_laws.proofs.SweptLess.{sweep_is_without}
use Rattle.removal_laws.proofs.listed.sweep_is_without.Goals as goal

pub returns : goal.returns
returns c = sweep_is_without
