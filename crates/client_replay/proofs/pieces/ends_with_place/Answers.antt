use Rattle.std.proofs.Common.{sym, ap, ◌∙◌}
use Rattle.client_replay.proofs.Ends.{ends_at, ends_at_last}
use Rattle.client_replay.proofs.pieces.ends_with_place.Goals as goal

pub returns-in-Some : goal.returns-in-Some
returns-in-Some c = ap (ends_at c.args.place) c.in-Some.ensures.value ∙ sym (ends_at_last c.args.place c.args.pieces.now)
