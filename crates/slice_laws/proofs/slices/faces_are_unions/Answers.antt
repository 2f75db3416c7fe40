use Rattle.slice_laws.proofs.Unions.{faces_are_unions}
use Rattle.slice_laws.proofs.slices.faces_are_unions.Goals as goal

pub returns : goal.returns
returns c = faces_are_unions
