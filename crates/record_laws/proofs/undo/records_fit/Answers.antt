use Rattle.record_laws.proofs.Fits.{records_fit}
use Rattle.record_laws.proofs.undo.records_fit.Goals as goal

pub returns : goal.returns
returns c = records_fit
