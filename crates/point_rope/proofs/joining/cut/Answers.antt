use Rattle.std.proofs.Common.{◌≡◌, ◌+◌, ◌-◌, ◌++◌, ℕ, List, take, drop, sym, ap, ◌∙◌, append_assoc, arith}
use Rattle.std.proofs.Math.Seq.{take-add}
use Rattle.tgap_model.specs.declared.geometry.Point.{Point}
use Rattle.point_rope.specs.Runs.{joined}
use Rattle.point_rope.proofs.Joined.{joined_push}
use Rattle.point_rope.proofs.joining.cut.Goals as goal

pub loop-place-preserved : goal.loop-place-preserved
loop-place-preserved c =
    let points = c.args.points.now in
    let place = c.loop-place.place in
    let before = joined c.args.full.now in
    let count : place + 256 - place ≡ 256 = omega arith in
    let run = c.of.ensures ∙ c.in_ok-from_slice.ensures.items ∙ ap (λ (n : ℕ). take n (drop place points)) count in
    record {
      within = omega (arith, c.loop-place-test.true);
      cut =
          ap joined c.in_ok-push.ensures ∙ joined_push c.loop-place.full c.of.result
          ∙ ap (λ (ps : List Point). ps ++ c.of.result) c.loop-place.invariant.cut
          ∙ append_assoc before (take place points) c.of.result
          ∙ ap (λ (ps : List Point). before ++ ps) (ap (λ (ps : List Point). take place points ++ ps) run ∙ sym (take-add place 256 points));
    }
