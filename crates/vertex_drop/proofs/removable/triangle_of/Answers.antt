use Rattle.std.proofs.Common.{arith}
use Rattle.vertex_drop.proofs.removable.triangle_of.Goals as goal

pub returns-clause-triangle : goal.returns-clause-triangle
returns-clause-triangle c = record {
  near_a = c.requires.a;
  near_b = c.requires.b;
  near_c = c.requires.c;
  area = c.requires.area;
  held_a = c.bounds_of.ensures 0 c.args.corner.a (omega arith);
  held_b = c.bounds_of.ensures 1 c.args.corner.a (omega arith);
  held_c = c.bounds_of.ensures 2 c.args.corner.a (omega arith);
}
