use Rattle.picture_laws.proofs.AreaSigns.{ring_areas_follow_winding}
use Rattle.picture_laws.proofs.rings.ring_areas_follow_winding.Goals as goal

pub returns : goal.returns
returns c = ring_areas_follow_winding
