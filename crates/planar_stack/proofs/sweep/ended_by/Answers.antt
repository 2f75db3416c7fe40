use Rattle.std.proofs.Common.{◌≡◌, ◌≤ℤ◌, ◌<ℤ◌, ℤ, pos, get_or, take, All, to_z, of_z, subst, arith}
use Rattle.std.specs.Int.{w64}
use Rattle.std.proofs.lemmas.Int.{ints}
use Rattle.std.proofs.lemmas.List.Elements.{All-more}
use Rattle.planar_stack.specs.declared.events.End.{End}
use Rattle.planar_stack.proofs.Leaving.{later_ends}
use Rattle.planar_stack.proofs.sweep.ended_by.Goals as goal

pub loop-ended-preserved : goal.loop-ended-preserved
loop-ended-preserved c =
    let v = to_z w64 (of_z w64 c.args.line) in
    let ends = c.args.ends.now in
    let ended = c.loop-ended.ended in
    let d : End = record { abscissa = pos 0; number = 0 } in
    let reached : (get_or ends ended d).abscissa ≤ℤ v = omega (arith, ints) in
    record {
      within = omega arith;
      past = All-more (λ e. e.abscissa ≤ℤ v) ends ended d c.loop-ended-test.true c.loop-ended.invariant.past reached;
    }

pub returns-else-ends-ended : goal.returns-else-ends-ended
returns-else-ends-ended c =
    let v = c.args.line in
    let ends = c.args.ends.now in
    let ended = c.loop-ended.ended in
    let line : to_z w64 (of_z w64 v) ≡ v = omega (arith, ints) in
    let d : End = record { abscissa = pos 0; number = 0 } in
    let beyond : v <ℤ (get_or ends ended d).abscissa = omega (arith, ints) in
    record {
      within = c.loop-ended.invariant.within;
      past = subst (λ (z : ℤ). All (λ e. e.abscissa ≤ℤ z) (take ended ends)) line c.loop-ended.invariant.past;
      ahead = later_ends ends c.requires v ended d beyond;
    }
