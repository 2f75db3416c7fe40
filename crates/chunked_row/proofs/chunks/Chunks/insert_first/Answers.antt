use Rattle.std.proofs.Common.{◌∷◌, ◌++◌, [], sym, ap, ◌∙◌}
use Rattle.chunked_row.specs.Chunks.{starts_from}
use Rattle.chunked_row.proofs.chunks.Chunks.insert_first.Goals as goal

pub invariant_of-self-2 : goal.invariant_of-self-2
unfolding starts_from
invariant_of-self-2 c =
    let none = c.self.view_is ∙ c.requires in
    let before = c.reserve.ensures.items ∙ c.self.invariant ∙ ap (starts_from 0) none in
    c.push_reserved.ensures.items ∙ ap (λ zs. zs ++ 0 ∷ []) before
    ∙ sym (ap (starts_from 0) (c.in_ok-push.ensures.items ∙ ap (λ zss. zss ++ c.in_ok-first.first ∷ []) none))
