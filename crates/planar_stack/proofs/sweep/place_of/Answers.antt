-- The members on both sides of the place show on which side of it all others are.
use Rattle.std.proofs.Common.{◌≡◌, ◌-◌, ◌<◌, ℤ, Bool, true, false, not, get_or, length, to_z, of_z, refl, subst, arith}
use Rattle.std.specs.Int.{w64}
use Rattle.std.proofs.lemmas.Int.{ints}
use Rattle.planar_stack.specs.Sweep.{higher_at}
use Rattle.lemmas.proofs.Placing.{before_from, not_before_up_to}
use Rattle.planar_stack.proofs.Ordered.{order_at}
use Rattle.planar_stack.proofs.sweep.place_of.Goals as goal

no_from_not : (b : Bool) → true ≡ not b → b ≡ false
no_from_not true e = absurd cc
no_from_not false e = refl

yes_from_not : (b : Bool) → false ≡ not b → b ≡ true
yes_from_not true e = refl
yes_from_not false e = absurd cc

pub returns : goal.returns
returns c =
    let v = c.args.line in
    let starts = c.args.starts.now in
    let n = c.args.number in
    let stack = c.args.stack.now in
    let place = c.search.result in
    let e : to_z w64 (of_z w64 v) ≡ v = omega (arith, ints) in
    let o = c.requires.ordered in
    let h = c.search.ensures in
    let passed : 0 < place → true ≡ not (higher_at v starts n (get_or stack (place - 1) 0)) = λ l. subst (λ (z : ℤ). true ≡ not (higher_at z starts n (get_or stack (place - 1) 0))) e (h.passed l) in
    let failed : place < length stack → false ≡ not (higher_at v starts n (get_or stack place 0)) = λ l. subst (λ (z : ℤ). false ≡ not (higher_at z starts n (get_or stack place 0))) e (h.failed l) in
    record {
      within = h.within;
      above = λ k d less. not_before_up_to (order_at v starts) n stack c.requires.crossed o.crossed o.sorted (place - 1) k 0 d (omega (arith, less)) (omega (arith, less, h.within))
          (no_from_not (higher_at v starts n (get_or stack (place - 1) 0)) (passed (omega (arith, less))));
      below = λ k d le short. before_from (order_at v starts) n stack c.requires.crossed o.crossed o.sorted place k 0 d le short
          (yes_from_not (higher_at v starts n (get_or stack place 0)) (failed (omega (arith, le, short))));
    }
