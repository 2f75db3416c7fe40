-- Where the next start begins beyond the line, so do all others.
use Rattle.std.proofs.Common.{◌<ℤ◌, ℤ, subst, arith}
use Rattle.std.proofs.lemmas.Int.{ints}
use Rattle.planar_stack.proofs.Active.{all_later}
use Rattle.planar_stack.proofs.sweep.insert_begun.Goals as goal

pub returns-else-left_end-line-clause-later : goal.returns-else-left_end-line-clause-later
returns-else-left_end-line-clause-later c =
    let after : c.args.line <ℤ c.left_end.result = omega (arith, ints) in
    all_later c.args.line c.args.starts.now c.loop-begun.begun _ c.requires.ready (subst (λ (z : ℤ). c.args.line <ℤ z) c.left_end.ensures after)
