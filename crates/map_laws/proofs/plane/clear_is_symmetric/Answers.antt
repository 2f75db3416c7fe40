use Rattle.map_laws.proofs.Clear.{clear_is_symmetric}
use Rattle.map_laws.proofs.plane.clear_is_symmetric.Goals as goal

pub returns : goal.returns
returns c = clear_is_symmetric
