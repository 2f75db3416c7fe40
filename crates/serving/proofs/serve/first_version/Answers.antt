use Rattle.std.specs.Arc.{arc_value}
use Rattle.serving.proofs.Refusals.{refused_map}
use Rattle.serving.proofs.Servings.{is_loaded}
use Rattle.serving.proofs.serve.first_version.Goals as goal

pub returns-clause-refused : goal.returns-clause-refused
returns-clause-refused g c = refused_map _ _ _ _ c.first_of_base.result c.in_ok-base.ensures.read c.first_of_base.ensures.refused

pub returns-clause-first : goal.returns-clause-first
returns-clause-first g c =
    is_loaded _ _ _ _ c.first_of_base.result c.in_ok-base.ensures.read c.first_of_base.ensures.first
    c.first_of_base.ensures.sound
