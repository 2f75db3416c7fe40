use Rattle.record_laws.proofs.Fits.{records_fit}
use Rattle.record_laws.proofs.PacketSteps.{packets_fit_by}
use Rattle.record_laws.proofs.UndoStep.{undo_goes_back}
use Rattle.record_laws.proofs.packets.packets_fit.Goals as goal

pub returns : goal.returns
returns c = packets_fit_by records_fit undo_goes_back
