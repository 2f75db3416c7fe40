use Rattle.picture_laws.proofs.ClosedRings.{rings_are_closed}
use Rattle.picture_laws.proofs.rings.rings_are_closed.Goals as goal

pub returns : goal.returns
returns c = rings_are_closed
