use Rattle.picture_laws.proofs.BaseAreas.{base_areas_add}
use Rattle.picture_laws.proofs.areas.base_areas_add.Goals as goal

pub returns : goal.returns
returns c = base_areas_add
