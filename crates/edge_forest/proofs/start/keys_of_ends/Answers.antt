-- One more arc end.
use Rattle.std.proofs.Common.{◌/◌, ◌++◌, ◌∷◌, [], Some, List, Option, ℕ, sym, ap, ◌∙◌, arith}
use Rattle.std.proofs.lemmas.List.FromFn.{map-range_with_len_more}
use Rattle.edge_forest.proofs.start.keys_of_ends.Goals as goal

pub loop-x-preserved : goal.loop-x-preserved
loop-x-preserved c =
    let x = c.loop-x.x in
    c.in_ok-push.ensures.items ∙ ap (λ (ends : List (Option ℕ)). ends ++ Some (x / 2) ∷ []) c.loop-x.invariant
    ∙ sym (map-range_with_len_more (λ x. Some (x / 2)) 0 x x (omega arith))
