use Rattle.picture_laws.proofs.Triangles.{sweep_moves_triangles}
use Rattle.picture_laws.proofs.areas.sweep_moves_triangles.Goals as goal

pub returns : goal.returns
returns c = sweep_moves_triangles
