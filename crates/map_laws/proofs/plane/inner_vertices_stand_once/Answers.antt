use Rattle.map_laws.proofs.InnerVertices.{inner_vertices_stand_once}
use Rattle.map_laws.proofs.plane.inner_vertices_stand_once.Goals as goal

pub returns : goal.returns
returns c = inner_vertices_stand_once
