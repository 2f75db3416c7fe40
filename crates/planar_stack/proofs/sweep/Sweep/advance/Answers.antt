use Rattle.std.proofs.Common.{◌≡◌, ◌≤ℤ◌, ℕ, ℤ, List, to_z, of_z, sym, subst, arith}
use Rattle.std.specs.Int.{w64}
use Rattle.std.proofs.lemmas.Int.{ints}
use Rattle.planar_stack.specs.Sweep.{IsActive, AreLeft, AreTouched}
use Rattle.planar_stack.proofs.Active.{active_out}
use Rattle.planar_stack.proofs.Leaving.{left_from_active, touched_none}
use Rattle.planar_stack.proofs.sweep.Sweep.advance.Goals as goal

pub remove_ended-requires-clause-left : goal.remove_ended-requires-clause-left
remove_ended-requires-clause-left c =
    let starts = c.args.starts.now in
    let ends = c.args.ends.now in
    let s = c.args.self.now in
    let v = c.args.after in
    let after : v ≡ to_z w64 (of_z w64 v) = omega (arith, ints) in
    subst (λ (z : ℤ). AreLeft z starts ends s.ended s.stack) after
    (left_from_active starts ends c.requires.ends c.args.line v s.begun s.ended s.stack c.requires.up c.requires.ready c.requires.reached.active c.requires.reached.past c.requires.none)

pub remove_ended-requires-clause-touched : goal.remove_ended-requires-clause-touched
remove_ended-requires-clause-touched c =
    let starts = c.args.starts.now in
    let stack = c.args.self.now.stack in
    let u = to_z w64 (of_z w64 c.args.line) in
    subst (λ (ts : List ℕ). AreTouched u starts stack ts) (sym c.clear.ensures.items) (touched_none u starts stack c.requires.agree)

pub insert_begun-requires-clause-active : goal.insert_begun-requires-clause-active
insert_begun-requires-clause-active c =
    let starts = c.args.starts.now in
    let s = c.args.self.now in
    let v = to_z w64 (of_z w64 c.args.after) in
    let after : c.args.after ≡ v = omega (arith, ints) in
    subst (λ (ns : List ℕ). IsActive v starts s.begun ns) (sym c.in_ok-self.ensures.out)
    (active_out c.args.line v starts s.begun s.stack (subst (λ (z : ℤ). c.args.line ≤ℤ z) after c.requires.up) c.requires.ready.apart c.requires.reached.active)

pub insert_begun-requires-clause-touched : goal.insert_begun-requires-clause-touched
insert_begun-requires-clause-touched c =
    let t = c.in_ok-self.ensures.touched in
    let u = to_z w64 (of_z w64 c.args.line) in
    let v = to_z w64 (of_z w64 c.args.after) in
    let up : u ≤ℤ v = omega (arith, ints) in
    record {
      known = t.known;
      begun = λ k d l. let h = t.begun k d l in omega (arith, ints, h, up);
      covered = t.covered;
    }
