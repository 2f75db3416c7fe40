use Rattle.picture_laws.proofs.BaseAreas.{faces_stay_near}
use Rattle.picture_laws.proofs.areas.faces_stay_near.Goals as goal

pub returns : goal.returns
returns c = faces_stay_near
