-- The number that is kept is the sum of the arc, and so it is small.
use Rattle.std.proofs.Common.{◌≡◌, ◌≤◌, ℤ, unsigned_abs, to_z, of_z, arith, ◌∙◌, sym, subst}
use Rattle.std.specs.Int.{w64}
use Rattle.std.proofs.lemmas.Int.{ints}
use Rattle.tgap_model.specs.Bounds.{max_arc_area}
use Rattle.ring_sides.proofs.Measures.{area_is}
use Rattle.ring_sides.proofs.RawArcs.{named_sum}
use Rattle.ring_sides.proofs.arcs.Arcs.sum.Goals as goal

pub returns : goal.returns
returns c =
    let i = c.args.index in
    let same : to_z w64 (of_z w64 i) ≡ i = omega (arith, ints) in
    let kept = named_sum _ c.args.self.now c.self.inside.sums.items i _ _ c.arc_named.result c.self.view_is c.self.invariant c.requires same c.arc_named.ensures c.index.ensures in
    let is = area_is _ kept.size in
    record { value = is ∙ kept.value; size = subst (λ (z : ℤ). unsigned_abs z ≤ max_arc_area) (sym is) kept.size }
