use Rattle.step_laws.proofs.EachSlice.{slices_stay_planar}
use Rattle.step_laws.proofs.slices.slices_stay_planar.Goals as goal

pub returns : goal.returns
returns c = slices_stay_planar
