use Rattle.topo_laws.proofs.SliceSpans.{rings_have_one_face}
use Rattle.topo_laws.proofs.rings.rings_have_one_face.Goals as goal

pub returns : goal.returns
returns c = rings_have_one_face
