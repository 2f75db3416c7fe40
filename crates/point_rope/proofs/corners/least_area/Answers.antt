use Rattle.std.proofs.Common.{[]}
use Rattle.point_rope.proofs.corners.least_area.Goals as goal

pub returns-clause-exact : goal.returns-clause-exact
returns-clause-exact c = c.least.ensures.exact c.args.points.now (c.with_all.ensures.corners [] c.new.ensures.corners)

pub returns-clause-small : goal.returns-clause-small
returns-clause-small c n = c.least.ensures.small c.args.points.now n (c.with_all.ensures.corners [] c.new.ensures.corners)
