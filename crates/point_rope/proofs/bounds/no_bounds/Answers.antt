use Rattle.std.proofs.Common.{arith}
use Rattle.std.proofs.lemmas.Int.{ints}
use Rattle.point_rope.proofs.bounds.no_bounds.Goals as goal

pub returns : goal.returns
returns c p h = omega (arith, ints, h.left, h.right)
