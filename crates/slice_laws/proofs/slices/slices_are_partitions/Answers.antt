use Rattle.slice_laws.proofs.SlicesPlanar.{slices_are_partitions}
use Rattle.slice_laws.proofs.slices.slices_are_partitions.Goals as goal

pub returns : goal.returns
returns c = slices_are_partitions
