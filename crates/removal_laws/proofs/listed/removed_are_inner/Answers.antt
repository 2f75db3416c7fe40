use Rattle.removal_laws.proofs.ListedVertices.{removed_are_inner}
use Rattle.removal_laws.proofs.listed.removed_are_inner.Goals as goal

pub returns : goal.returns
returns c = removed_are_inner
