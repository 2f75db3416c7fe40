use Rattle.std.proofs.Common.{rules}
use Rattle.version_store.proofs.RuleKept.{notes}
use Rattle.version_store.proofs.seat.looks.SeatOf+V+N+Growing.tell.Goals as goal

pub split_seat-requires : goal.split_seat-requires
split_seat-requires g c = (search rules, search rules, notes _ _ _ _)

pub invariant_of-self : goal.invariant_of-self
invariant_of-self g c = record {
  of_store = search rules;
  sized = search rules;
  seated = search rules;
  called = search rules;
  newest_is = search rules;
  counted = search rules;
  numbered = search rules;
}
