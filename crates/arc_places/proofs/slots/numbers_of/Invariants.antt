use Rattle.std.proofs.Common.{◌≡◌, ℕ, ◌<◌, ◌≤◌, get_or, length}
use Rattle.arc_places.specs.Slots.{number_of}
use Rattle.arc_places.proofs.slots.numbers_of.Given as goal

-- the arcs so far are numbered
abbrev pub invariant-loop-arc : goal.invariant-loop-arc
invariant-loop-arc l = record {
  long : length l.numbers.items ≡ l.arc-index;
  each : (i d : ℕ) → i < l.arc-index → get_or l.numbers.items i d ≡ number_of l.slots i;
  few : l.count ≤ l.arc-index;
  next : l.count ≡ number_of l.slots l.arc-index;
}
