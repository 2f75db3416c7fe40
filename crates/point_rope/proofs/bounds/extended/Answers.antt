use Rattle.std.proofs.Common.{arith}
use Rattle.std.proofs.lemmas.Int.{ints}
use Rattle.point_rope.proofs.bounds.extended.Goals as goal

pub returns-clause-point : goal.returns-clause-point
returns-clause-point c = record {
  left = omega (arith, ints, c.min.ensures.other_bound, c.min.type_inv);
  right = omega (arith, ints, c.max.ensures.other_bound, c.max.type_inv);
  low = omega (arith, ints, c.min-2.ensures.other_bound, c.min-2.type_inv);
  high = omega (arith, ints, c.max-2.ensures.other_bound, c.max-2.type_inv);
}

pub returns-clause-others : goal.returns-clause-others
returns-clause-others c q h = record {
  left = omega (arith, ints, c.min.ensures.self_bound, c.min.type_inv, h.left);
  right = omega (arith, ints, c.max.ensures.self_bound, c.max.type_inv, h.right);
  low = omega (arith, ints, c.min-2.ensures.self_bound, c.min-2.type_inv, h.low);
  high = omega (arith, ints, c.max-2.ensures.self_bound, c.max-2.type_inv, h.high);
}
