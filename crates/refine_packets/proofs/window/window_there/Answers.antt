-- It is the window of the slice.
use Rattle.tgap_model.specs.Slice.{slice}
use Rattle.refine_packets.proofs.window.window_there.Goals as goal

pub returns-in-Ok : goal.returns-in-Ok
unfolding slice
returns-in-Ok c = c.in-Ok.ensures.exact
