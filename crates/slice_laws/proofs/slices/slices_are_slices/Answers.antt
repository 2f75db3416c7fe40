use Rattle.slice_laws.proofs.EvenSides.{slices_are_slices}
use Rattle.slice_laws.proofs.slices.slices_are_slices.Goals as goal

pub returns : goal.returns
returns c = slices_are_slices
