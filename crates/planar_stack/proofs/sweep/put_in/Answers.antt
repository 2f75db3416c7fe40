use Rattle.std.proofs.Common.{◌≡◌, ◌++◌, ℤ, ℕ, List, [], ◌∷◌, take, drop, to_z, of_z, sym, ap, ap₂, ◌∙◌, subst, subst₂, arith}
use Rattle.std.specs.Int.{w64}
use Rattle.std.proofs.lemmas.Int.{ints}
use Rattle.planar_stack.specs.Sweep.{differing, IsPlace, AreTouched}
use Rattle.planar_stack.proofs.Ordered.{place-insert, touched_in}
use Rattle.planar_stack.proofs.sweep.put_in.Goals as goal

pub returns-clause-placed : goal.returns-clause-placed
returns-clause-placed c =
    let v = c.args.line in
    let starts = c.args.starts.now in
    let stack = c.args.stack.now in
    let place = c.place_of-place.result in
    let e : to_z w64 (of_z w64 v) ≡ v = omega (arith, ints) in
    let p = subst (λ (z : ℤ). IsPlace z starts c.args.number stack place) e c.place_of-place.ensures in
    c.in_ok-insert.ensures ∙ place-insert v starts c.args.number stack place p

pub returns-clause-touched : goal.returns-clause-touched
returns-clause-touched c =
    let v = c.args.line in
    let starts = c.args.starts.now in
    let stack = c.args.stack.now in
    let touched = c.args.touched.now.items in
    let place = c.place_of-place.result in
    let e : to_z w64 (of_z w64 v) ≡ v = omega (arith, ints) in
    let p = subst (λ (z : ℤ). IsPlace z starts c.args.number stack place) e c.place_of-place.ensures in
    let first = c.in_ok-touch.ensures ∙ ap (λ (u : ℕ). touched ++ differing starts u (c.args.number ∷ [])) c.face_reached.ensures in
    let more = c.in_ok-touch_at.ensures ∙ ap₂ (λ (ts : List ℕ) (u : ℕ). ts ++ differing starts u (take 1 (drop place stack))) first c.faces-lower.ensures.lower in
    subst₂ (λ (ns ts : List ℕ). AreTouched v starts ns ts) (sym c.in_ok-insert.ensures) (sym more)
    (touched_in v starts c.args.number stack touched place p c.requires.ordered c.requires.touched c.requires.known c.requires.crossed)
