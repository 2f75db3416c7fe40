use Rattle.std.proofs.Common.{rules}
use Rattle.version_store.proofs.RuleKept.{seats_one}
use Rattle.version_store.proofs.seat.made.SeatOf+V+N+Growing.made.Goals as goal

pub split_seat-place-requires : goal.split_seat-place-requires
split_seat-place-requires g c = (search rules, search rules, seats_one _ _ _ _ c.requires.press.0 (search rules) c.requires.nobody)
