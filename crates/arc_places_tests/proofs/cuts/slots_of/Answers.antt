use Rattle.std.proofs.Common.{◌∙◌, sym, subst}
use Rattle.arc_places.specs.Borders.{HaveFaces}
use Rattle.arc_places_tests.proofs.cuts.slots_of.Goals as goal

pub returns-clause-faces : goal.returns-clause-faces
returns-clause-faces c = λ n have.
    c.in_ok-made.ensures.faces n (c.in_ok-later.ensures.faces n (subst (HaveFaces n) (sym (c.into_vec-all.ensures ∙ c.in_ok-copied_arcs.ensures)) have))
