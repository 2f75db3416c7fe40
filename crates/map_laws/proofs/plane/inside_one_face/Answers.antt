use Rattle.map_laws.proofs.Inside.{inside_one_face}
use Rattle.map_laws.proofs.plane.inside_one_face.Goals as goal

pub returns : goal.returns
returns c = inside_one_face
