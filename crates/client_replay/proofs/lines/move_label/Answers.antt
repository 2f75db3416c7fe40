use Rattle.std.proofs.Common.{rules}
use Rattle.std.proofs.lemmas.Map.Made.{map_same_pairs}
use Rattle.client_replay.specs.Working.{moved}
use Rattle.client_replay.proofs.lines.move_label.Goals as goal

pub returns-clause-moved : goal.returns-clause-moved
returns-clause-moved c = map_same_pairs _ (moved c.args.from c.args.to) _ (λ k v b w f' t. search rules) _ _ c.retain.ensures.filtered
