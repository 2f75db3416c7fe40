use Rattle.std.proofs.Common.{◌≡◌, ◌++◌, ◌∷◌, [], ℕ, map, length, ap, ◌∙◌, arith}
use Rattle.std.specs.List.{range_with_len}
use Rattle.planar_sweep.specs.declared.marks.Mark.{Mark}
use Rattle.planar_sweep.specs.Ends.{front_mark}
use Rattle.planar_sweep.proofs.EventFacts.{listed_more}
use Rattle.planar_sweep.proofs.marks.push_fronts.Goals as goal

pub loop-number-preserved : goal.loop-number-preserved
loop-number-preserved c =
    c.in_ok-push.ensures.items ∙ ap (λ (m : Mark). c.loop-number.marks.items ++ m ∷ []) c.front_mark.ensures
    ∙ listed_more (front_mark c.args.segments.now) c.args.marks.now.items c.loop-number.marks.items c.loop-number.number c.loop-number.invariant

pub returns : goal.returns
returns c =
    let all : c.loop-number.number ≡ length c.args.segments.now = omega (arith, c.loop-number-test.false, c.loop-number.auto.number-end) in
    c.loop-number.invariant ∙ ap (λ (n : ℕ). c.args.marks.now.items ++ map (front_mark c.args.segments.now) (range_with_len 0 n)) all
