use Rattle.std.proofs.Common.{ℕ, List, map, take, sym, subst}
use Rattle.std.proofs.lemmas.List.{take_more, take_all}
use Rattle.planar_stack.specs.Sweep.{sides_at, IsFirstOf}
use Rattle.planar_stack.proofs.sweep.touched_place.Goals as goal

pub loop-number-preserved : goal.loop-number-preserved
loop-number-preserved c =
    let touched = c.args.touched.now in
    let i = c.loop-number.number-index in
    subst (λ (seen : List ℕ). IsFirstOf seen (map (sides_at c.args.starts.now) c.args.stack.now) c.args.stack.now c.higher_gap-place.result) (sym (take_more touched i 0 c.loop-number-test.true))
    (c.higher_gap-place.ensures.seen (take i touched) c.loop-number.invariant)

pub returns : goal.returns
returns c =
    let stack = c.args.stack.now in
    let all = take_all c.loop-number.number-index c.args.touched.now c.loop-number-test.false in
    subst (λ (seen : List ℕ). IsFirstOf seen (map (sides_at c.args.starts.now) stack) stack c.loop-number.place) all c.loop-number.invariant
