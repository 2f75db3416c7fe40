use Rattle.picture_laws.proofs.PassedEdges.{rings_pass_edges}
use Rattle.picture_laws.proofs.rings.rings_pass_edges.Goals as goal

pub returns : goal.returns
returns c = rings_pass_edges
