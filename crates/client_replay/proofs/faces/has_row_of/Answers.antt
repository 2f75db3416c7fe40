use Rattle.std.proofs.Common.{rules, ◌∙◌}
use Rattle.std.proofs.lemmas.Fn.{always_returns_same}
use Rattle.client_replay.proofs.Found.{searched_any}
use Rattle.client_replay.proofs.faces.has_row_of.Goals as goal

pub returns : goal.returns
returns c =
    c.is_ok.ensures.value
    ∙ searched_any (λ f. f.face) c.args.face c.args.rows.now c.binary_search_by_key.result c.requires c.binary_search_by_key.ensures.bound
    (c.binary_search_by_key.ensures.position (λ f. f.face) (always_returns_same _ _ _ (λ a r f k. search rules)))
