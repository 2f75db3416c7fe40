use Rattle.std.proofs.Common.{◌≡◌, ◌≤◌, ◌<◌, ◌*◌, ◌+◌, ◌^◌, ◌∙◌, ℤ, ◌+ℤ◌, unsigned_abs, to_z, of_z, length, drop, get_or, sym, subst, ap, arith}
use Rattle.std.specs.Int.{w128}
use Rattle.tgap_model.specs.Bounds.{max_arc_area}
use Rattle.tgap_model.proofs.ShoelaceSums.{sum_is, sum_size}
use Rattle.std.proofs.lemmas.List.{get_or_default}
use Rattle.ring_walk.specs.declared.side.Side.{Side}
use Rattle.ring_walk.specs.declared.side.Way.TheVariants.{Along}
use Rattle.ring_walk.specs.Areas.{ring_area}
use Rattle.topo_write.proofs.RingAreas.{area_next}
use Rattle.topo_write.proofs.areas.ring_area.Goals as goal

abbrev none : Side
none = record { span = 0; way = Along }

pub side_area-area-requires-clause-side : goal.side_area-area-requires-clause-side
side_area-area-requires-clause-side c = c.requires.ring.sides c.loop-side.side-index _ c.loop-side-test.true

pub loop-side-preserved : goal.loop-side-preserved
loop-side-preserved c =
    let k = c.loop-side.side-index in
    let ring = c.args.ring.now in
    let s = to_z w128 c.loop-side.area-bits in
    let t = c.side_area-area.result in
    let short = c.requires.ring.short in
    let few = c.requires.few in
    let inside : k < length ring = omega arith in
    let size : unsigned_abs s ≤ k * max_arc_area = c.loop-side.invariant.size in
    let more : unsigned_abs t ≤ max_arc_area = c.side_area-area.ensures.size in
    let is : to_z w128 (of_z w128 (s +ℤ to_z w128 (of_z w128 t))) ≡ s +ℤ t = sum_is s t (2 ^ 120) (omega (arith, size, inside, short, few)) (omega (arith, more)) (omega arith) in
    record {
      value = λ lines h. ap (λ z. z +ℤ ring_area lines (drop (k + 1) ring)) is
          ∙ area_next lines ring k (get_or ring k none) s t _ inside (get_or_default ring k none (get_or ring k none) inside) (c.loop-side.invariant.value lines h) (c.side_area-area.ensures.value lines h);
      size = subst (λ (z : ℤ). unsigned_abs z ≤ (k + 1) * max_arc_area) (sym is) (omega (arith, sum_size s t (k * max_arc_area) max_arc_area size more));
    }
