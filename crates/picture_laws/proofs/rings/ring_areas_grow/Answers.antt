use Rattle.picture_laws.proofs.AreaSigns.{ring_areas_grow}
use Rattle.picture_laws.proofs.rings.ring_areas_grow.Goals as goal

pub returns : goal.returns
returns c = ring_areas_grow
