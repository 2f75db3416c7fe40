use Rattle.picture_laws.proofs.FaceRingsPass.{rings_of_face_pass}
use Rattle.picture_laws.proofs.rings.rings_of_face_pass.Goals as goal

pub returns : goal.returns
returns c = rings_of_face_pass
