use Rattle.std.proofs.Common.{ℕ, length, IsPermutation, ap, ◌∙◌, subst}
use Rattle.std.specs.List.{range_with_len}
use Rattle.std.proofs.lemmas.List.{length-map}
use Rattle.std.proofs.lemmas.Result.{IfOk-weaker}
use Rattle.planar_apart.specs.Meetings.{box_of}
use Rattle.planar_apart.proofs.boxes.near_order.Goals as goal

pub returns : goal.returns
returns c =
    let segments = c.args.segments.now in
    let count = ap length (c.as_slice.ensures ∙ c.in_ok-boxes.ensures) ∙ length-map segments box_of in
    IfOk-weaker c.order_of.result (λ order. IsPermutation (range_with_len 0 (length c.as_slice.result.now)) order.items) (λ order. IsPermutation (range_with_len 0 (length segments)) order.items)
    (λ order moved. subst (λ (n : ℕ). IsPermutation (range_with_len 0 n) order.items) count moved) c.order_of.ensures
