use Rattle.map_laws.proofs.Vanishing.{ended_edges_vanish}
use Rattle.map_laws.proofs.chains.ended_edges_vanish.Goals as goal

pub returns : goal.returns
returns c = ended_edges_vanish
