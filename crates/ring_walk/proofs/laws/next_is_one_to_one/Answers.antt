use Rattle.ring_walk.proofs.RingOrbits.{next_is_one_to_one}
use Rattle.ring_walk.proofs.laws.next_is_one_to_one.Goals as goal

pub returns : goal.returns
returns c = next_is_one_to_one
