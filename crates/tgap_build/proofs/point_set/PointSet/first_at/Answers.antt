-- What comes before the corner of the box does not lie in it.
use Rattle.std.proofs.Common.{get_or}
use Rattle.tgap_build.proofs.PointsInBoxes.{before_corner}
use Rattle.tgap_build.proofs.point_set.PointSet.first_at.Goals as goal

pub returns : goal.returns
returns c = λ k d l m.
    before_corner c.args.bounds.now c.corner_of.result c.corner_of.ensures.left c.corner_of.ensures.low (get_or c.args.self.now k d) (c.place_behind.ensures k d l m)
