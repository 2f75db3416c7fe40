use Rattle.record_laws.proofs.PutsBack.{puts_come_back}
use Rattle.record_laws.proofs.pieces.puts_come_back.Goals as goal

pub returns : goal.returns
returns c = puts_come_back
