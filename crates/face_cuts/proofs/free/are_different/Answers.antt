use Rattle.std.proofs.Common.{◌≡◌, ◌∙◌, ◌-◌, ◌+◌, ◌<◌, ◌&&◌, ◌||◌, true, false, not, drop, get_or, length, sym, ap, arith}
use Rattle.std.specs.List.{list_any}
use Rattle.std.proofs.lemmas.Bool.{and_from}
use Rattle.tgap_model.specs.Base.{same_point}
use Rattle.ring_walk.specs.Sides.{origin}
use Rattle.face_cuts.specs.Cuts.{all_different}
use Rattle.face_cuts.proofs.FreePoints.{all_different_more, any_more, not_different}
use Rattle.face_cuts.proofs.free.are_different.Goals as goal

pub returns-then-has : goal.returns-then-has
returns-then-has c =
    let ps = c.args.points.now in
    let k = length ps - 1 - c.loop-step.step in
    let l : k < length ps = omega (arith, c.loop-step-test.true) in
    let next : length ps - c.loop-step.step ≡ k + 1 = omega (arith, c.loop-step-test.true) in
    let p = get_or ps k origin in
    let found : list_any (same_point p) (drop (k + 1) ps) ≡ true =
    ap (λ m. list_any (same_point p) (drop m ps)) (sym next) ∙ sym (c.loop-step.invariant.seen p) ∙ sym c.has.ensures ∙ c.if-has.true in
    sym (not_different ps k (all_different_more ps k origin l ∙ ap (λ b. not b && all_different (drop (k + 1) ps)) found))

pub loop-step-preserved : goal.loop-step-preserved
loop-step-preserved c =
    let ps = c.args.points.now in
    let k = length ps - 1 - c.loop-step.step in
    let l : k < length ps = omega (arith, c.loop-step-test.true) in
    let next : length ps - c.loop-step.step ≡ k + 1 = omega (arith, c.loop-step-test.true) in
    let here : length ps - (c.loop-step.step + 1) ≡ k = omega (arith, c.loop-step-test.true) in
    let p = get_or ps k origin in
    let new : list_any (same_point p) (drop (k + 1) ps) ≡ false =
    ap (λ m. list_any (same_point p) (drop m ps)) (sym next) ∙ sym (c.loop-step.invariant.seen p) ∙ sym c.has.ensures ∙ c.if-has.false in
    record {
      seen = λ q. c.in_ok-put.ensures q
          ∙ ap (λ b. same_point q p || b) (c.loop-step.invariant.seen q ∙ ap (λ m. list_any (same_point q) (drop m ps)) next)
          ∙ sym (ap (λ m. list_any (same_point q) (drop m ps)) here ∙ any_more ps k origin l q);
      different = ap (λ m. all_different (drop m ps)) here ∙ all_different_more ps k origin l
          ∙ and_from _ _ (ap not new) (ap (λ m. all_different (drop m ps)) (sym next) ∙ c.loop-step.invariant.different);
    }
