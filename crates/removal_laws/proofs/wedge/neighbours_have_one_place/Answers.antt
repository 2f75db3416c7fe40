use Rattle.removal_laws.proofs.WedgeEmpty.{neighbours_have_one_place}
use Rattle.removal_laws.proofs.wedge.neighbours_have_one_place.Goals as goal

pub returns : goal.returns
returns c = neighbours_have_one_place
