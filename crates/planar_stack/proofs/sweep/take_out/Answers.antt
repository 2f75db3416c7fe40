-- The member stands just above its place.
use Rattle.std.proofs.Common.{◌≡◌, ◌++◌, ℤ, ℕ, List, take, drop, to_z, of_z, sym, ap, ◌∙◌, subst, subst₂, arith}
use Rattle.std.specs.Int.{w64}
use Rattle.std.proofs.lemmas.Int.{ints}
use Rattle.planar_stack.specs.Sweep.{differing, IsPlace, AreTouched}
use Rattle.planar_stack.proofs.Ordered.{member_above, place-remove, touched_out}
use Rattle.planar_stack.proofs.sweep.take_out.Goals as goal

pub overflow_sub-place : goal.overflow_sub-place
overflow_sub-place c =
    let v = c.args.line in
    let starts = c.args.starts.now in
    let stack = c.args.stack.now in
    let place = c.place_of-below.result in
    let e : to_z w64 (of_z w64 v) ≡ v = omega (arith, ints) in
    let p = subst (λ (z : ℤ). IsPlace z starts c.args.number stack place) e c.place_of-below.ensures in
    (member_above v starts c.args.number stack place p c.requires.ordered c.requires.member).0

pub returns-clause-out : goal.returns-clause-out
returns-clause-out c =
    let v = c.args.line in
    let starts = c.args.starts.now in
    let stack = c.args.stack.now in
    let place = c.place_of-below.result in
    let e : to_z w64 (of_z w64 v) ≡ v = omega (arith, ints) in
    let p = subst (λ (z : ℤ). IsPlace z starts c.args.number stack place) e c.place_of-below.ensures in
    c.remove.ensures ∙ place-remove v starts c.args.number stack place p c.requires.ordered c.requires.member

pub returns-clause-touched : goal.returns-clause-touched
returns-clause-touched c =
    let v = c.args.line in
    let starts = c.args.starts.now in
    let stack = c.args.stack.now in
    let touched = c.args.touched.now.items in
    let place = c.place_of-below.result in
    let e : to_z w64 (of_z w64 v) ≡ v = omega (arith, ints) in
    let p = subst (λ (z : ℤ). IsPlace z starts c.args.number stack place) e c.place_of-below.ensures in
    let more = c.in_ok-touch_at.ensures ∙ ap (λ (u : ℕ). touched ++ differing starts u (take 1 (drop place stack))) c.face_reached-reached.ensures in
    subst₂ (λ (ns ts : List ℕ). AreTouched v starts ns ts) (sym c.remove.ensures) (sym more)
    (touched_out v starts c.args.number stack touched place p c.requires.ordered c.requires.touched c.requires.member)
