use Rattle.std.proofs.Common.{◌∙◌}
use Rattle.std.proofs.lemmas.List.{take_rest}
use Rattle.point_rope.proofs.Rests.{drop_within}
use Rattle.point_rope.proofs.run.rest_of.Goals as goal

pub returns-clause-all : goal.returns-clause-all
returns-clause-all c = take_rest c.args.points.now c.min-start.result ∙ drop_within c.args.points.now c.args.place c.min-start.result c.min-start.ensures
