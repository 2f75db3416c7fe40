use Rattle.picture_laws.proofs.RingWinds.{rings_wind_once}
use Rattle.picture_laws.proofs.rings.rings_wind_once.Goals as goal

pub returns : goal.returns
returns c = rings_wind_once
