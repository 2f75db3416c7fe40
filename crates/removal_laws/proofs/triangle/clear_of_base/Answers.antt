use Rattle.removal_laws.proofs.ClearTriangle.{clear_of_base}
use Rattle.removal_laws.proofs.triangle.clear_of_base.Goals as goal

pub returns : goal.returns
returns c = clear_of_base
