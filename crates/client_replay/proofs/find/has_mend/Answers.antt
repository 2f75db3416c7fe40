use Rattle.std.proofs.Common.{rules, ◌∙◌}
use Rattle.std.proofs.lemmas.Fn.{always_returns_same}
use Rattle.client_replay.proofs.Found.{searched_any}
use Rattle.client_replay.proofs.find.has_mend.Goals as goal

pub returns : goal.returns
returns c =
    c.is_ok.ensures.value
    ∙ searched_any (λ m. m.key) c.args.key c.args.mends.now c.binary_search_by_key.result c.requires c.binary_search_by_key.ensures.bound
    (c.binary_search_by_key.ensures.position (λ m. m.key) (always_returns_same _ _ _ (λ a r f k. search rules)))
