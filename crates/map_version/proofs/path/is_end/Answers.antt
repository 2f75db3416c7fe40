use Rattle.std.proofs.Common.{Bool, ◌||◌, sym, ap, ◌∙◌}
use Rattle.tgap_model.specs.Base.{same_point}
use Rattle.tgap_model.specs.Chains.{last_point}
use Rattle.map_version.proofs.Positions.{first_is, last_is}
use Rattle.map_version.proofs.path.is_end.Goals as goal

pub returns-else-eq : goal.returns-else-eq
returns-else-eq c =
    let p = c.args.point.now in
    let points = c.args.points.now in
    let first = ap (same_point p) (first_is points _ c.requires) ∙ (sym c.eq.ensures ∙ c.if-eq.false) in
    c.eq-else-eq.ensures ∙ (ap (same_point p) (sym (last_is points _ c.requires)) ∙ sym (ap (λ (b : Bool). b || same_point p (last_point points)) first))
