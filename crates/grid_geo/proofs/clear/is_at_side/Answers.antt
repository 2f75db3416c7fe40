use Rattle.grid_geo.proofs.Triangles.{first_or, second_or, same_sides}
use Rattle.grid_geo.proofs.clear.is_at_side.Goals as goal

pub returns-then-is_side : goal.returns-then-is_side
returns-then-is_side c = first_or _ (same_sides c.args.at c.args.z c.is_side.ensures c.ranges.at c.ranges.z c.requires) c.if-is_side.true

pub returns-else-is_side : goal.returns-else-is_side
returns-else-is_side c = second_or (same_sides c.args.at c.args.z c.is_side.ensures c.ranges.at c.ranges.z c.requires) c.if-is_side.false c.touches.ensures
