use Rattle.std.proofs.Common.{◌∙◌, ◌||◌, ◌≤◌, not, List, length, sym, ap, subst, arith}
use Rattle.std.proofs.lemmas.Bool.{eqb-true, eqb-false}
use Rattle.tgap_model.specs.declared.geometry.Point.{Point}
use Rattle.tgap_model.specs.Base.{same_point}
use Rattle.tgap_model.specs.Chains.{first_point, last_point}
use Rattle.map_version.proofs.Listed.{ends_tell, ends_past}
use Rattle.map_version.proofs.arcs.IndexedArcs.ends_at.Goals as goal

pub returns-then-not-is_empty : goal.returns-then-not-is_empty
returns-then-not-is_empty c =
    let p = c.args.point.now in
    let points = c.points-points.result.now in
    let apart = eqb-false (length points) 0 (sym c.is_empty.ensures ∙ c.if-not-is_empty.true) in
    let some : 1 ≤ length points = omega (arith, apart) in
    c.is_end.ensures
    ∙ (ap (λ (ps : List Point). same_point p (first_point ps) || same_point p (last_point ps)) c.points-points.ensures
    ∙ sym (ends_tell p c.args.self.now.slots c.args.slot (subst (λ (ps : List Point). 1 ≤ length ps) c.points-points.ensures some)))

pub returns-else-not-is_empty : goal.returns-else-not-is_empty
returns-else-not-is_empty c =
    let none = eqb-true (length c.points-points.result.now) 0 (sym c.is_empty.ensures ∙ c.if-not-is_empty.false) in
    ap not c.if-not-is_empty.false ∙ sym (ends_past c.args.point.now c.args.self.now.slots c.args.slot (sym (ap (length {A = Point}) c.points-points.ensures) ∙ none))
