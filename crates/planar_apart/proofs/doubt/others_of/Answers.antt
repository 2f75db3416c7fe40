use Rattle.std.proofs.Common.{◌≡◌, length, not, get_or, map, ℕ, ap, ◌∙◌, arith}
use Rattle.std.specs.List.{filter, range_with_len}
use Rattle.planar_apart.specs.Rows.{past_last}
use Rattle.planar_apart.specs.Doubts.{is_doubtful}
use Rattle.planar_apart.proofs.Doubts.{others_more}
use Rattle.planar_apart.proofs.doubt.others_of.Goals as goal

pub loop-number-preserved : goal.loop-number-preserved
loop-number-preserved c = others_more c.args.segments.now c.args.doubts.now c.loop-number.kept c.push_certain.new.others c.loop-number.number c.loop-number.invariant c.in_ok-push_certain.ensures

pub returns : goal.returns
returns c =
    let segments = c.args.segments.now in
    let all : c.loop-number.number ≡ length segments = omega (arith, c.loop-number-test.false, c.loop-number.auto.number-end) in
    c.loop-number.invariant ∙ ap (λ (n : ℕ). map (λ i. get_or segments i past_last) (filter (λ i. not (is_doubtful c.args.doubts.now i)) (range_with_len 0 n))) all
