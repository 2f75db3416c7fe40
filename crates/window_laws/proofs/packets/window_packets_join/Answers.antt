use Rattle.window_laws.proofs.WindowPacketSteps.{window_packets_join}
use Rattle.window_laws.proofs.packets.window_packets_join.Goals as goal

pub returns : goal.returns
returns c = window_packets_join
