use Rattle.picture_laws.proofs.Triangles.{removal_moves_triangle}
use Rattle.picture_laws.proofs.areas.removal_moves_triangle.Goals as goal

pub returns : goal.returns
returns c = removal_moves_triangle
