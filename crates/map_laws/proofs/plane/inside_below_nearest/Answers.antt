use Rattle.map_laws.proofs.Nearest.{inside_below_nearest}
use Rattle.map_laws.proofs.plane.inside_below_nearest.Goals as goal

pub returns : goal.returns
returns c = inside_below_nearest
