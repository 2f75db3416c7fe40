use Rattle.picture_laws.proofs.RingAreas.{ring_areas_add}
use Rattle.picture_laws.proofs.rings.ring_areas_add.Goals as goal

pub returns : goal.returns
returns c = ring_areas_add
