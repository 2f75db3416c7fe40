use Rattle.record_laws.proofs.UndoStep.{undo_goes_back}
use Rattle.record_laws.proofs.undo.undo_goes_back.Goals as goal

pub returns : goal.returns
returns c = undo_goes_back
