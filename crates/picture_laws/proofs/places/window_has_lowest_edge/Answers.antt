use Rattle.picture_laws.proofs.WindowEdges.{window_has_lowest_edge}
use Rattle.picture_laws.proofs.places.window_has_lowest_edge.Goals as goal

pub returns : goal.returns
returns c = window_has_lowest_edge
