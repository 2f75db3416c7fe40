use Rattle.slice_laws.proofs.Adjacency.{faces_are_adjacent}
use Rattle.slice_laws.proofs.slices.faces_are_adjacent.Goals as goal

pub returns : goal.returns
returns c = faces_are_adjacent
