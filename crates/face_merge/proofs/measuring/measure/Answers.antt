-- One more segment, and the end, where nothing is left to measure.
use Rattle.std.proofs.Common.{arith, ◌<◌, ◌≤◌, ◌*◌, ◌+◌, ◌^◌, ℤ, unsigned_abs, to_z, length, ap, sym, subst}
use Rattle.std.specs.Int.{w128}
use Rattle.std.proofs.lemmas.Int.{ints, to_z-of_z}
use Rattle.tgap_model.specs.declared.limits.TheConstants.{MAX_POINTS}
use Rattle.tgap_model.specs.Bounds.{max_shoelace}
use Rattle.tgap_model.proofs.ShoelaceSums.{sum_is, sum_size, shoelace_next, shoelace_end}
use Rattle.face_merge.proofs.Terms.{path_next, path_end}
use Rattle.face_merge.proofs.measuring.measure.Goals as goal

pub loop-i-preserved : goal.loop-i-preserved
loop-i-preserved c =
    let xs = c.as_slice-points.result.now in
    let s = to_z w128 c.loop-i.twice-bits in
    let t = c.shoelace_term-twice.result in
    let low : 1 ≤ c.loop-i.i = c.loop-i.auto.i in
    let high : c.loop-i.i < length xs = c.loop-i-test.true in
    let same = ap length c.as_slice-points.ensures in
    let short : c.loop-i.i < MAX_POINTS = omega (arith, c.requires.short) in
    let size : unsigned_abs s ≤ c.loop-i.i * max_shoelace = c.loop-i.invariant.area_size in
    let more : unsigned_abs t ≤ max_shoelace = c.shoelace_term-twice.ensures.size in
    let is = sum_is s t (2 ^ 120) (omega arith) (omega arith) (omega arith) in
    record {
      area = rw is (shoelace_next xs c.loop-i.i _ s t _ low high c.loop-i.invariant.area c.shoelace_term-twice.ensures.value);
      extent = path_next xs c.loop-i.i _ c.loop-i.extent c.length_of-extent.result low high c.loop-i.invariant.extent c.length_of-extent.ensures.value;
      area_size = subst (λ (z : ℤ). unsigned_abs z ≤ (c.loop-i.i + 1) * max_shoelace) (sym is) (omega (arith, sum_size s t (c.loop-i.i * max_shoelace) (max_shoelace) size more));
      extent_size = omega (arith, c.loop-i.invariant.extent_size, c.length_of-extent.ensures.size);
    }

pub returns : goal.returns
returns c =
    let xs = c.as_slice-points.result.now in
    let low = c.loop-i.auto.i in
    let area = shoelace_end xs c.loop-i.i (to_z w128 c.loop-i.twice-bits) _ low c.loop-i-test.false c.loop-i.invariant.area in
    let extent = path_end xs c.loop-i.i c.loop-i.extent low c.loop-i-test.false c.loop-i.invariant.extent in
    let same = c.as_slice-points.ensures in
    let length = to_z-of_z w128 c.from.result (omega (arith, ints, c.from.ensures, c.loop-i.invariant.extent_size)) in
    let same = c.as_slice-points.ensures in
    let from = c.from.ensures in
    cc
