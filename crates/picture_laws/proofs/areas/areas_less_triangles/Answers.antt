use Rattle.picture_laws.proofs.BaseAreas.{areas_less_triangles}
use Rattle.picture_laws.proofs.areas.areas_less_triangles.Goals as goal

pub returns : goal.returns
returns c = areas_less_triangles
