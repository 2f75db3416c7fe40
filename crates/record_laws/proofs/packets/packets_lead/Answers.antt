use Rattle.record_laws.proofs.Fits.{records_fit}
use Rattle.record_laws.proofs.PacketSteps.{packets_lead_by}
use Rattle.record_laws.proofs.UndoStep.{undo_goes_back}
use Rattle.record_laws.proofs.packets.packets_lead.Goals as goal

pub returns : goal.returns
returns c = packets_lead_by records_fit undo_goes_back
