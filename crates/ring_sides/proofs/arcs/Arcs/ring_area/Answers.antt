-- One index more: a ring has so few of them that the sum fits.
use Rattle.std.proofs.Common.{arith, ◌≡◌, ◌≤◌, ◌*◌, ◌+◌, ◌^◌, ℤ, pos, unsigned_abs, to_z, of_z, slice_index_or, sym, subst, ap, ◌∙◌}
use Rattle.std.specs.Int.{w64, w128}
use Rattle.std.proofs.lemmas.Int.{ints}
use Rattle.tgap_model.specs.Bounds.{max_arc_area}
use Rattle.topology_forms.specs.Rings.{shoelace_named}
use Rattle.tgap_model.proofs.ShoelaceSums.{sum_is, sum_size}
use Rattle.ring_sides.proofs.RawArcs.{ring_few}
use Rattle.ring_sides.proofs.RingLoops.{area_next}
use Rattle.ring_sides.proofs.arcs.Arcs.ring_area.Goals as goal

pub loop-index-preserved : goal.loop-index-preserved
loop-index-preserved c =
    let k = c.loop-index.index-index in
    let i = slice_index_or c.args.ring.now k (pos 0) in
    let s = to_z w128 c.loop-index.area-bits in
    let t = c.area-area.result in
    let few = ring_few _ c.args.ring.now c.requires in
    let inside = c.loop-index-test.true in
    let size : unsigned_abs s ≤ k * max_arc_area = c.loop-index.invariant.size in
    let more : unsigned_abs t ≤ max_arc_area = c.area-area.ensures.size in
    let is = sum_is s t (2 ^ 120) (omega arith) (omega arith) (omega arith) in
    let same : to_z w64 (of_z w64 i) ≡ i = omega (arith, ints) in
    let value : t ≡ shoelace_named c.args.self.now i = c.area-area.ensures.value ∙ ap (shoelace_named c.args.self.now) same in
    record {
      value = rw is (area_next c.args.self.now c.args.ring.now k (pos 0) s t _ inside c.loop-index.invariant.value value);
      size = subst (λ (z : ℤ). unsigned_abs z ≤ (k + 1) * max_arc_area) (sym is) (omega (arith, sum_size s t (k * max_arc_area) max_arc_area size more));
    }
