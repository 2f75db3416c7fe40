use Rattle.std.proofs.Common.{◌≡◌, ◌++◌, ℕ, map, filter, length, ap, ◌∙◌, arith}
use Rattle.std.specs.List.{range_with_len}
use Rattle.planar_sweep.specs.Ends.{last_mark, is_loose}
use Rattle.planar_sweep.proofs.EventFacts.{kept_more}
use Rattle.planar_sweep.proofs.marks.push_lasts.Goals as goal

pub loop-number-preserved : goal.loop-number-preserved
loop-number-preserved c =
    let segments = c.args.segments.now in
    c.in_ok-push_loose.ensures ∙ kept_more (is_loose segments) (last_mark segments) c.args.marks.now.items c.loop-number.marks.items c.loop-number.number c.loop-number.invariant

pub returns : goal.returns
returns c =
    let segments = c.args.segments.now in
    let all : c.loop-number.number ≡ length segments = omega (arith, c.loop-number-test.false, c.loop-number.auto.number-end) in
    c.loop-number.invariant ∙ ap (λ (n : ℕ). c.args.marks.now.items ++ filter (is_loose segments) (map (last_mark segments) (range_with_len 0 n))) all
