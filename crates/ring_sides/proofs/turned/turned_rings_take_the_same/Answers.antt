use Rattle.ring_sides.proofs.TurnedRings.{turned_takes}
use Rattle.ring_sides.proofs.turned.turned_rings_take_the_same.Goals as goal

pub returns : goal.returns
returns c = turned_takes
