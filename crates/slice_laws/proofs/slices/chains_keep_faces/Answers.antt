use Rattle.slice_laws.proofs.EvenSides.{chains_keep_faces}
use Rattle.slice_laws.proofs.slices.chains_keep_faces.Goals as goal

pub returns : goal.returns
returns c = chains_keep_faces
