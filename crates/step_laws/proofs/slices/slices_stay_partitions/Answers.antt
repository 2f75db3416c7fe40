use Rattle.step_laws.proofs.EachSlice.{slices_stay_partitions}
use Rattle.step_laws.proofs.slices.slices_stay_partitions.Goals as goal

pub returns : goal.returns
returns c = slices_stay_partitions
