use Rattle.record_laws.proofs.PiecesAreEdges.{pieces_are_edges}
use Rattle.record_laws.proofs.pieces.pieces_are_edges.Goals as goal

pub returns : goal.returns
returns c = pieces_are_edges
