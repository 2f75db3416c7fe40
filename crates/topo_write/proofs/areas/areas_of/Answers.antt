use Rattle.std.proofs.Common.{◌≡◌, ◌≤◌, ◌∙◌, ℤ, List, length, All, sym, ap, subst, to_z, of_z, unsigned_abs, arith}
use Rattle.std.specs.Int.{w128}
use Rattle.std.proofs.lemmas.Int.{ints}
use Rattle.tgap_model.specs.Bounds.{max_arc_area}
use Rattle.tgap_model.specs.declared.limits.TheConstants.{MAX_ARCS}
use Rattle.ring_walk.specs.Areas.{ring_area}
use Rattle.topo_write.specs.Building.{AreSums}
use Rattle.topo_write.specs.Polygons.{lines_of}
use Rattle.topo_write.proofs.RingAreas.{sums_long, ring_here, map_more}
use Rattle.topo_write.proofs.areas.areas_of.Goals as goal

pub ring_area-requires-clause-sums : goal.ring_area-requires-clause-sums
ring_area-requires-clause-sums c = subst (All (λ (z : ℤ). unsigned_abs z ≤ max_arc_area)) (sym c.deref.ensures.value) c.in_ok-sums.ensures.size

pub ring_area-requires-clause-few : goal.ring_area-requires-clause-few
ring_area-requires-clause-few c =
    let long = sums_long c.args.edges.now c.in_ok-sums.sums.items c.in_ok-sums.ensures in
    subst (λ (zs : List ℤ). length zs ≤ MAX_ARCS) (sym c.deref.ensures.value) (omega (arith, long, c.requires.few))

pub ring_area-requires-clause-ring : goal.ring_area-requires-clause-ring
ring_area-requires-clause-ring c =
    let long = sums_long c.args.edges.now c.in_ok-sums.sums.items c.in_ok-sums.ensures in
    ring_here (length c.args.edges.now) c.args.rings.now c.loop-ring.ring-index c.ring-item.result c.as_slice.result.now (length c.deref.result.now) c.requires.rings c.loop-ring-test.true c.ring-item.is c.as_slice.ensures
    (ap length c.deref.ensures.value ∙ long)

pub loop-ring-preserved : goal.loop-ring-preserved
loop-ring-preserved c =
    let sums = c.in_ok-sums.sums.items in
    let lines = lines_of c.args.edges.now in
    let z = c.ring_area.result in
    let told : z ≡ ring_area lines c.as_slice.result.now = c.ring_area.ensures lines (subst (AreSums lines) (sym c.deref.ensures.value) c.in_ok-sums.ensures) in
    let same : to_z w128 (of_z w128 z) ≡ z = omega (arith, ints) in
    map_more (ring_area lines) c.args.rings.now c.loop-ring.ring-index c.ring-item.result c.loop-ring.areas.items c.push.new.self.items (to_z w128 (of_z w128 z)) c.loop-ring-test.true c.ring-item.is
    c.loop-ring.invariant (same ∙ told ∙ ap (ring_area lines) c.as_slice.ensures) c.in_ok-push.ensures.items
