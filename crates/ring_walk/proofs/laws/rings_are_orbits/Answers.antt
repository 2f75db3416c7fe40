use Rattle.ring_walk.proofs.RingOrbits.{rings_are_orbits}
use Rattle.ring_walk.proofs.laws.rings_are_orbits.Goals as goal

pub returns : goal.returns
returns c = rings_are_orbits
