-- Points within the limits are near.
use Rattle.tgap_model.proofs.Points.{near_point as near}
use Rattle.grid_geo.proofs.area2.Goals as goal

pub orientation-requires-clause-a : goal.orientation-requires-clause-a
orientation-requires-clause-a c = near c.args.a c.requires.a

pub orientation-requires-clause-b : goal.orientation-requires-clause-b
orientation-requires-clause-b c = near c.args.b c.requires.b

pub orientation-requires-clause-c : goal.orientation-requires-clause-c
orientation-requires-clause-c c = near c.args.c c.requires.c
