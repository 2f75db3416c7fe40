-- Each end that is reached takes its segment out; the ends that are left are beyond the abscissa.
use Rattle.std.proofs.Common.{◌≡◌, ◌+◌, ◌≤ℤ◌, ◌<ℤ◌, ℤ, ℕ, pos, List, get_or, to_z, of_z, sym, subst, subst₂, arith}
use Rattle.std.specs.Int.{w64}
use Rattle.std.proofs.lemmas.Int.{ints}
use Rattle.planar_stack.specs.declared.events.End.{End}
use Rattle.planar_stack.specs.Sweep.{AreTouched}
use Rattle.planar_stack.proofs.Leaving.{IsLeaving, ends_later, none_later, leaving_member, leaving_next, leaving_end}
use Rattle.planar_stack.proofs.sweep.remove_ended.Goals as goal

pub take_out-requires-clause-member : goal.take_out-requires-clause-member
take_out-requires-clause-member c =
    let u = to_z w64 (of_z w64 c.args.before) in
    let v = to_z w64 (of_z w64 c.args.line) in
    let loop = c.loop-gone in
    let d : End = record { abscissa = pos 0; number = 0 } in
    let reached : (get_or c.args.ends.now loop.gone d).abscissa ≤ℤ v = omega (arith, ints) in
    leaving_member u v c.args.starts.now c.args.ends.now c.requires.ends loop.gone c.args.stack.now loop.stack loop.touched.items loop.invariant d c.loop-gone-test.true reached

pub loop-gone-preserved : goal.loop-gone-preserved
loop-gone-preserved c =
    let u = to_z w64 (of_z w64 c.args.before) in
    let v = to_z w64 (of_z w64 c.args.line) in
    let starts = c.args.starts.now in
    let ends = c.args.ends.now in
    let old = c.args.stack.now in
    let loop = c.loop-gone in
    let after = c.take_out.new.touched.items in
    let d : End = record { abscissa = pos 0; number = 0 } in
    let reached : (get_or ends loop.gone d).abscissa ≤ℤ v = omega (arith, ints) in
    let touched = subst (λ (ns : List ℕ). AreTouched u starts ns after) c.in_ok-take_out.ensures.out c.in_ok-take_out.ensures.touched in
    subst (λ (ns : List ℕ). IsLeaving u v starts ends (loop.gone + 1) old ns after) (sym c.in_ok-take_out.ensures.out)
    (leaving_next u v starts ends c.requires.ends loop.gone old loop.stack loop.touched.items loop.invariant d c.loop-gone-test.true reached after touched)

pub returns-else-ends-gone-clause-out : goal.returns-else-ends-gone-clause-out
returns-else-ends-gone-clause-out c =
    let u = c.args.before in
    let v = c.args.line in
    let starts = c.args.starts.now in
    let ends = c.args.ends.now in
    let old = c.args.stack.now in
    let loop = c.loop-gone in
    let line : to_z w64 (of_z w64 v) ≡ v = omega (arith, ints) in
    let from : to_z w64 (of_z w64 u) ≡ u = omega (arith, ints) in
    let d : End = record { abscissa = pos 0; number = 0 } in
    let beyond : v <ℤ (get_or ends loop.gone d).abscissa = omega (arith, ints) in
    let leaving = subst₂ (λ (y z : ℤ). IsLeaving y z starts ends loop.gone old loop.stack loop.touched.items) from line loop.invariant in
    (leaving_end u v starts ends c.requires.ends loop.gone old loop.stack loop.touched.items leaving (ends_later starts ends c.requires.ends v loop.gone d beyond)).0

pub returns-else-ends-gone-clause-ended : goal.returns-else-ends-gone-clause-ended
returns-else-ends-gone-clause-ended c =
    let u = c.args.before in
    let v = c.args.line in
    let starts = c.args.starts.now in
    let ends = c.args.ends.now in
    let old = c.args.stack.now in
    let loop = c.loop-gone in
    let line : to_z w64 (of_z w64 v) ≡ v = omega (arith, ints) in
    let from : to_z w64 (of_z w64 u) ≡ u = omega (arith, ints) in
    let d : End = record { abscissa = pos 0; number = 0 } in
    let beyond : v <ℤ (get_or ends loop.gone d).abscissa = omega (arith, ints) in
    let leaving = subst₂ (λ (y z : ℤ). IsLeaving y z starts ends loop.gone old loop.stack loop.touched.items) from line loop.invariant in
    (leaving_end u v starts ends c.requires.ends loop.gone old loop.stack loop.touched.items leaving (ends_later starts ends c.requires.ends v loop.gone d beyond)).1

pub returns-after-loop-gone-clause-out : goal.returns-after-loop-gone-clause-out
returns-after-loop-gone-clause-out c =
    let u = c.args.before in
    let v = c.args.line in
    let starts = c.args.starts.now in
    let ends = c.args.ends.now in
    let old = c.args.stack.now in
    let loop = c.loop-gone in
    let line : to_z w64 (of_z w64 v) ≡ v = omega (arith, ints) in
    let from : to_z w64 (of_z w64 u) ≡ u = omega (arith, ints) in
    let leaving = subst₂ (λ (y z : ℤ). IsLeaving y z starts ends loop.gone old loop.stack loop.touched.items) from line loop.invariant in
    (leaving_end u v starts ends c.requires.ends loop.gone old loop.stack loop.touched.items leaving (none_later v ends loop.gone c.loop-gone-test.false)).0

pub returns-after-loop-gone-clause-ended : goal.returns-after-loop-gone-clause-ended
returns-after-loop-gone-clause-ended c =
    let u = c.args.before in
    let v = c.args.line in
    let starts = c.args.starts.now in
    let ends = c.args.ends.now in
    let old = c.args.stack.now in
    let loop = c.loop-gone in
    let line : to_z w64 (of_z w64 v) ≡ v = omega (arith, ints) in
    let from : to_z w64 (of_z w64 u) ≡ u = omega (arith, ints) in
    let leaving = subst₂ (λ (y z : ℤ). IsLeaving y z starts ends loop.gone old loop.stack loop.touched.items) from line loop.invariant in
    (leaving_end u v starts ends c.requires.ends loop.gone old loop.stack loop.touched.items leaving (none_later v ends loop.gone c.loop-gone-test.false)).1
