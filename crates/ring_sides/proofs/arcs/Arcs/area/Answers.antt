-- The negative of a small number fits.
use Rattle.std.proofs.Common.{◌≡◌, ◌≤◌, ℤ, unsigned_abs, to_z, of_z, arith, sym, subst, ◌∙◌}
use Rattle.std.specs.Int.{w64}
use Rattle.std.proofs.lemmas.Int.{ints}
use Rattle.tgap_model.specs.Bounds.{max_arc_area}
use Rattle.ring_sides.proofs.Measures.{area_is, minus_fits, minus_is, minus_size}
use Rattle.ring_sides.proofs.RawArcs.{minus_named}
use Rattle.ring_sides.proofs.arcs.Arcs.area.Goals as goal

pub overflow_sub-result : goal.overflow_sub-result
overflow_sub-result c = minus_fits c.sum-sum.result c.sum-sum.ensures.size

pub returns-then-is_reversed : goal.returns-then-is_reversed
returns-then-is_reversed c =
    let i = c.args.index in
    let z = c.sum-sum.result in
    let small = c.sum-sum.ensures.size in
    let same : to_z w64 (of_z w64 i) ≡ i = omega (arith, ints) in
    let is = minus_is z small in
    record {
      value = is ∙ minus_named c.args.self.now i _ z c.is_reversed.result c.sum-sum.ensures.value same c.is_reversed.ensures c.if-is_reversed.true;
      size = subst (λ (y : ℤ). unsigned_abs y ≤ max_arc_area) (sym is) (minus_size z small);
    }

pub returns-else-is_reversed-clause-size : goal.returns-else-is_reversed-clause-size
returns-else-is_reversed-clause-size c =
    let z = c.sum-sum.result in
    let small = c.sum-sum.ensures.size in
    subst (λ (y : ℤ). unsigned_abs y ≤ max_arc_area) (sym (area_is z small)) small
