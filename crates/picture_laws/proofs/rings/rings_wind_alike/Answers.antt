use Rattle.picture_laws.proofs.PassedEdges.{rings_wind_alike}
use Rattle.picture_laws.proofs.rings.rings_wind_alike.Goals as goal

pub returns : goal.returns
returns c = rings_wind_alike
