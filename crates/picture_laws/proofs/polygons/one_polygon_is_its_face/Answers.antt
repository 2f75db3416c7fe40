use Rattle.picture_laws.proofs.PolygonSums.{one_polygon_is_its_face}
use Rattle.picture_laws.proofs.polygons.one_polygon_is_its_face.Goals as goal

pub returns : goal.returns
returns c = one_polygon_is_its_face
