use Rattle.step_laws.proofs.EachSlice.{faces_stay_unions}
use Rattle.step_laws.proofs.slices.faces_stay_unions.Goals as goal

pub returns : goal.returns
returns c = faces_stay_unions
