use Rattle.removal_laws.proofs.ListedVertices.{sweep_is_slice}
use Rattle.removal_laws.proofs.listed.sweep_is_slice.Goals as goal

pub returns : goal.returns
returns c = sweep_is_slice
