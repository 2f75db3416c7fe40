use Rattle.grid_geo.proofs.Triangles.{clear_where_apart, not_clear}
use Rattle.grid_geo.proofs.clear.clear_of.Goals as goal

pub returns-then-not-is_base : goal.returns-then-not-is_base
returns-then-not-is_base c = clear_where_apart c.args.a c.args.b c.args.c c.args.s c.is_base.ensures c.if-not-is_base.true c.is_apart.ensures

pub returns-else-not-is_base : goal.returns-else-not-is_base
returns-else-not-is_base c = not_clear c.args.a c.args.b c.args.c c.args.s c.is_base.ensures c.if-not-is_base.false
