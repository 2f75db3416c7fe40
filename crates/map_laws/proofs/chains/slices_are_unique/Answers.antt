use Rattle.map_laws.proofs.SlicesUnique.{slices_unique}
use Rattle.map_laws.proofs.chains.slices_are_unique.Goals as goal

pub returns : goal.returns
returns c = slices_unique
