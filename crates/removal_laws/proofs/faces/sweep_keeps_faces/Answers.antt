use Rattle.removal_laws.proofs.StackKept.{sweep_keeps_faces}
use Rattle.removal_laws.proofs.faces.sweep_keeps_faces.Goals as goal

pub returns : goal.returns
returns c = sweep_keeps_faces
