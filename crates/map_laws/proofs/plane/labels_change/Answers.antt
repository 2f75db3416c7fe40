use Rattle.map_laws.proofs.Labels.{labels_change}
use Rattle.map_laws.proofs.plane.labels_change.Goals as goal

pub returns : goal.returns
returns c = labels_change
