use Rattle.window_laws.proofs.NewFaces.{window_faces_come_with_edges}
use Rattle.window_laws.proofs.steps.window_faces_come_with_edges.Goals as goal

pub returns : goal.returns
returns c = window_faces_come_with_edges
