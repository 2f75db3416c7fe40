use Rattle.topo_laws.proofs.SliceSpans.{next_has_the_face}
use Rattle.topo_laws.proofs.rings.next_has_the_face.Goals as goal

pub returns : goal.returns
returns c = next_has_the_face
