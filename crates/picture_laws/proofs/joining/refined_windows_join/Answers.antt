use Rattle.window_laws.proofs.WindowPacketSteps.{window_packets_lead_by}
use Rattle.window_laws.proofs.WindowSteps.{window_steps_fit, window_undo_goes_back}
use Rattle.picture_laws.proofs.WindowsJoin.{refined_windows_join_by}
use Rattle.picture_laws.proofs.joining.refined_windows_join.Goals as goal

pub returns : goal.returns
returns c = refined_windows_join_by (window_packets_lead_by window_steps_fit window_undo_goes_back)
