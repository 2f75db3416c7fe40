use Rattle.std.proofs.Common.{rules}
use Rattle.version_store.proofs.RuleKept.{hears}
use Rattle.version_store.proofs.seat.looks.SeatOf+V+N+Growing.hear.Goals as goal

pub join_seat-requires : goal.join_seat-requires
join_seat-requires g c = (search rules, search rules, search rules, search rules, hears _ _ _ _ _ _ c.requires.1)

pub invariant_of-self : goal.invariant_of-self
invariant_of-self g c = record {
  of_store = search rules;
  sized = search rules;
  seated = search rules;
  called = search rules;
  newest_is = search rules;
  counted = search rules;
  numbered = search rules;
}
