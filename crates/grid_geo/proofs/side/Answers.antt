-- The sign of a cross product fits 8 bits.
use Rattle.std.proofs.Common.{ap, ◌∙◌}
use Rattle.std.specs.Int.{int_signum}
use Rattle.tgap_model.proofs.Points.{near_point as near}
use Rattle.grid_geo.proofs.Sizes.{sign_fits, sign_cast}
use Rattle.grid_geo.proofs.side.Goals as goal

pub orientation-requires-clause-a : goal.orientation-requires-clause-a
orientation-requires-clause-a c = near c.args.a c.requires.a

pub orientation-requires-clause-b : goal.orientation-requires-clause-b
orientation-requires-clause-b c = near c.args.b c.requires.b

pub orientation-requires-clause-c : goal.orientation-requires-clause-c
orientation-requires-clause-c c = near c.args.c c.requires.c

pub overflow_cast-result : goal.overflow_cast-result
overflow_cast-result c = sign_fits c.orientation.result c.signum.result c.orientation.ensures.size c.signum.ensures.value

pub returns : goal.returns
returns c = sign_cast c.orientation.result c.signum.result c.orientation.ensures.size c.signum.ensures.value ∙ ap int_signum c.orientation.ensures.value
