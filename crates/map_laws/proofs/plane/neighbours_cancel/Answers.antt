use Rattle.map_laws.proofs.Labels.{neighbours_cancel}
use Rattle.map_laws.proofs.plane.neighbours_cancel.Goals as goal

pub returns : goal.returns
returns c = neighbours_cancel
