use Rattle.picture_laws.proofs.PolygonSums.{polygons_cover_faces}
use Rattle.picture_laws.proofs.polygons.polygons_cover_faces.Goals as goal

pub returns : goal.returns
returns c = polygons_cover_faces
