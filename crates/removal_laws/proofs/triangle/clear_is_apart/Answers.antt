use Rattle.removal_laws.proofs.ClearTriangle.{clear_is_apart}
use Rattle.removal_laws.proofs.triangle.clear_is_apart.Goals as goal

pub returns : goal.returns
returns c = clear_is_apart
