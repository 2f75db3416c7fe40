use Rattle.picture_laws.proofs.RingsApart.{rings_apart_pass}
use Rattle.picture_laws.proofs.rings.rings_apart_pass.Goals as goal

pub returns : goal.returns
returns c = rings_apart_pass
