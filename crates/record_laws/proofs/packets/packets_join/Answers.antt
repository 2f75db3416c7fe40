use Rattle.record_laws.proofs.PacketSteps.{packets_join}
use Rattle.record_laws.proofs.packets.packets_join.Goals as goal

pub returns : goal.returns
returns c = packets_join
