use Rattle.face_cuts.proofs.NodesKeep.{nodes_keep}
use Rattle.face_cuts.proofs.laws.nodes_keep_maps.Goals as goal

pub returns : goal.returns
returns c = nodes_keep
