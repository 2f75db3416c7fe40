use Rattle.picture_laws.proofs.RingWinds.{rings_cover_faces}
use Rattle.picture_laws.proofs.rings.rings_cover_faces.Goals as goal

pub returns : goal.returns
returns c = rings_cover_faces
