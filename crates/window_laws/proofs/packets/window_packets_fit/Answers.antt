use Rattle.window_laws.proofs.WindowPacketSteps.{window_packets_fit_by}
use Rattle.window_laws.proofs.WindowSteps.{window_steps_fit, window_undo_goes_back}
use Rattle.window_laws.proofs.packets.window_packets_fit.Goals as goal

pub returns : goal.returns
returns c = window_packets_fit_by window_steps_fit window_undo_goes_back
