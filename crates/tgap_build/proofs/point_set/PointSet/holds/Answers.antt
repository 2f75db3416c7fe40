use Rattle.std.proofs.Common.{◌∙◌}
use Rattle.tgap_build.proofs.PointSets.{search_tells}
use Rattle.tgap_build.proofs.point_set.PointSet.holds.Goals as goal

pub returns : goal.returns
returns c = c.is_some.ensures ∙ search_tells c.args.self.now c.args.point.now c.place_of.result c.place_of.ensures
