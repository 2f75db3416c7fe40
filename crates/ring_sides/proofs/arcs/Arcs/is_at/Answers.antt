-- An arc of several points is not at one place.
use Rattle.std.proofs.Common.{◌≡◌, List, to_z, of_z, arith, sym, ap, ◌∙◌}
use Rattle.std.specs.Int.{w64}
use Rattle.std.specs.List.{list_all}
use Rattle.std.proofs.lemmas.Bool.{ne_eqb}
use Rattle.std.proofs.lemmas.Int.{ints}
use Rattle.tgap_model.specs.declared.geometry.Point.{Point}
use Rattle.tgap_model.specs.Base.{same_point}
use Rattle.topology_forms.specs.Rings.{points_named}
use Rattle.ring_sides.proofs.RawArcs.{not_at}
use Rattle.ring_sides.proofs.arcs.Arcs.is_at.Goals as goal

pub returns-else-points-eq1 : goal.returns-else-points-eq1
returns-else-points-eq1 c =
    let i = c.args.index in
    let points = c.points-points.result.now in
    let same : to_z w64 (of_z w64 i) ≡ i = omega (arith, ints) in
    let none = not_at c.args.place points c.points-points.ensures.formed c.if-points-eq1.false in
    ne_eqb _ 1 c.if-points-eq1.false ∙ sym none
    ∙ ap (λ (ps : List Point). list_all (same_point c.args.place) ps) (c.points-points.ensures.value ∙ ap (points_named c.args.self.now) same)
