-- One more segment, and the end, where none is left.
use Rattle.std.proofs.Common.{arith, ◌≤◌, ◌*◌, ◌+◌, ◌^◌, ℤ, unsigned_abs, to_z, sym, subst}
use Rattle.std.specs.Int.{w128}
use Rattle.tgap_model.specs.Bounds.{max_shoelace}
use Rattle.tgap_model.proofs.ShoelaceSums.{sum_is, sum_size, shoelace_next, shoelace_end}
use Rattle.tgap_model.proofs.area.shoelace.Goals as goal

pub loop-i-preserved : goal.loop-i-preserved
loop-i-preserved c =
    let xs = c.args.points.now in
    let i = c.loop-i.i in
    let s = to_z w128 c.loop-i.sum-bits in
    let t = c.shoelace_term-sum.result in
    let size : unsigned_abs s ≤ i * max_shoelace = c.loop-i.invariant.size in
    let more : unsigned_abs t ≤ max_shoelace = c.shoelace_term-sum.ensures.size in
    let is = sum_is s t (2 ^ 120) (omega arith) (omega arith) (omega arith) in
    record {
      value = rw is (shoelace_next xs i _ s t _ c.loop-i.auto.i c.loop-i-test.true c.loop-i.invariant.value c.shoelace_term-sum.ensures.value);
      size = subst (λ (z : ℤ). unsigned_abs z ≤ (i + 1) * max_shoelace) (sym is) (omega (arith, sum_size s t (i * max_shoelace) max_shoelace size more));
    }

pub returns : goal.returns
returns c = shoelace_end c.args.points.now c.loop-i.i (to_z w128 c.loop-i.sum-bits) _ c.loop-i.auto.i c.loop-i-test.false c.loop-i.invariant.value
