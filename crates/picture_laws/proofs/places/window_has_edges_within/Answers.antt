use Rattle.picture_laws.proofs.WindowEdges.{window_has_edges_within}
use Rattle.picture_laws.proofs.places.window_has_edges_within.Goals as goal

pub returns : goal.returns
returns c = window_has_edges_within
