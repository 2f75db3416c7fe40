-- A segment that has ended stays out; the line crosses the others.
use Rattle.std.proofs.Common.{◌≡◌, ◌<ℤ◌, ◌≤ℤ◌, ◌+◌, ℤ, ℕ, List, true, to_z, of_z, sym, subst, arith}
use Rattle.std.specs.Int.{w64}
use Rattle.std.proofs.lemmas.Int.{ints}
use Rattle.std.proofs.lemmas.Result.{IfOk-weaker}
use Rattle.lemmas.specs.Sorting.{insert_by}
use Rattle.planar_stack.specs.Sweep.{segment_at, crossed_at, higher_at, IsActive}
use Rattle.planar_stack.proofs.Ends.{crossed_from_ends}
use Rattle.planar_stack.proofs.Active.{active_in, active_past}
use Rattle.planar_stack.proofs.sweep.bring_in.Goals as goal

pub returns-then-right_end-line-clause-active : goal.returns-then-right_end-line-clause-active
returns-then-right_end-line-clause-active c =
    let v = c.args.line in
    let past : c.right_end.result ≤ℤ v = omega (arith, ints) in
    active_past v c.args.starts.now c.args.number c.args.stack.now c.requires.active c.requires.known c.requires.begins (subst (λ (z : ℤ). z ≤ℤ v) c.right_end.ensures past)

pub put_in-requires-clause-crossed : goal.put_in-requires-clause-crossed
put_in-requires-clause-crossed c =
    let v = c.args.line in
    let starts = c.args.starts.now in
    let line : v ≡ to_z w64 (of_z w64 v) = omega (arith, ints) in
    let after : v <ℤ c.right_end.result = omega (arith, ints) in
    subst (λ (z : ℤ). crossed_at z starts c.args.number ≡ true) line
    (crossed_from_ends v (segment_at starts c.args.number) c.requires.begins (subst (λ (z : ℤ). v <ℤ z) c.right_end.ensures after))

pub returns-clause-active : goal.returns-clause-active
returns-clause-active c =
    let v = c.args.line in
    let u = to_z w64 (of_z w64 v) in
    let starts = c.args.starts.now in
    let number = c.args.number in
    let old = c.args.stack.now in
    let new = c.put_in.new.stack in
    let line : u ≡ v = omega (arith, ints) in
    let after : v <ℤ c.right_end.result = omega (arith, ints) in
    let next = active_in v starts number old c.requires.ready.apart c.requires.active c.requires.known c.requires.begins (subst (λ (z : ℤ). v <ℤ z) c.right_end.ensures after) in
    IfOk-weaker c.put_in.result (λ x. new ≡ insert_by (higher_at u starts) number old) (λ x. IsActive v starts (number + 1) new)
    (λ x e. subst (λ (ns : List ℕ). IsActive v starts (number + 1) ns) (sym (subst (λ (z : ℤ). new ≡ insert_by (higher_at z starts) number old) line e)) next) c.put_in.ensures.placed
