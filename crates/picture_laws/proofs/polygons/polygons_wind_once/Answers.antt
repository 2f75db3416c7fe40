use Rattle.picture_laws.proofs.PolygonSums.{polygons_wind_once}
use Rattle.picture_laws.proofs.polygons.polygons_wind_once.Goals as goal

pub returns : goal.returns
returns c = polygons_wind_once
