use Rattle.removal_laws.proofs.ListedVertices.{vertices_are_listed_once}
use Rattle.removal_laws.proofs.listed.vertices_are_listed_once.Goals as goal

pub returns : goal.returns
returns c = vertices_are_listed_once
