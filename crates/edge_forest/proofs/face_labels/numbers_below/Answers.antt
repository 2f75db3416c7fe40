use Rattle.std.proofs.Common.{◌≡◌, ℕ, ◌+◌, List, [], ◌∷◌, ◌++◌, sym, ap, ◌∙◌, arith}
use Rattle.std.specs.List.{range_with_len}
use Rattle.edge_forest.proofs.AliveSame.{range_append}
use Rattle.edge_forest.proofs.face_labels.numbers_below.Goals as goal

pub loop-i-preserved : goal.loop-i-preserved
loop-i-preserved c =
    let i = c.loop-i.i in
    let from : i ≡ 0 + i = omega arith in
    c.in_ok-push.ensures.items ∙ ap (λ (ns : List ℕ). ns ++ i ∷ []) c.loop-i.invariant
    ∙ ap (λ (n : ℕ). range_with_len 0 i ++ range_with_len n 1) from ∙ sym (range_append 0 i 1)
