-- A point right of the box is the last one that is looked at.
use Rattle.std.proofs.Common.{◌<◌, ◌≤◌, ◌<ℤ◌, ℕ, ⊎_elim, get_or, refl, sym, subst, true≢false, arith}
use Rattle.std.proofs.lemmas.Bool.{cases_lt}
use Rattle.std.proofs.lemmas.List.{get_or_default}
use Rattle.tgap_model.specs.declared.geometry.Point.{Point}
use Rattle.point_rope.specs.Held.{IsHeld}
use Rattle.tgap_build.proofs.PointsInBoxes.{none_behind}
use Rattle.tgap_build.proofs.point_set.may_lie_in.Goals as goal

pub returns-then-is_right_of : goal.returns-then-is_right_of
returns-then-is_right_of c = λ e k d m held.
    let ps = c.args.points.now in
    let b = c.args.bounds.now in
    let i = c.loop-i.i in
    let right = subst (λ (p : Point). b.x1 <ℤ p.x) (get_or_default ps i _ d c.loop-i-test.true) (c.if-is_right_of.ensures refl) in
    ⊎_elim (λ (l : k < i). c.loop-i.invariant k d l m held) (λ (l : i ≤ k). none_behind ps c.requires.ascending b i k d l m right held) (cases_lt k i)

pub loop-i-preserved : goal.loop-i-preserved
loop-i-preserved c = λ k d l m held.
    let ps = c.args.points.now in
    let i = c.loop-i.i in
    let here = λ (le : i ≤ k). subst (λ (n : ℕ). IsHeld c.args.bounds.now (get_or ps n d)) (omega (arith, le, l)) held in
    ⊎_elim (λ (less : k < i). c.loop-i.invariant k d less m held)
    (λ (le : i ≤ k). true≢false (sym (c.if-is_level_with.ensures (subst (IsHeld c.args.bounds.now) (get_or_default ps i d _ c.loop-i-test.true) (here le))))) (cases_lt k i)
