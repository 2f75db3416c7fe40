use Rattle.std.proofs.Common.{◌≡◌, ◌-◌, ◌++◌, length, All}
use Rattle.ring_walk.specs.Rings.{next_side, row_until, ring_from}
use Rattle.ring_walk.specs.Spans.{IsSide}
use Rattle.ring_walk.proofs.rings.ring_from.Given as goal

-- the row so far, and the row from the side on, are the ring
abbrev pub invariant-loop : goal.invariant-loop
invariant-loop l = record {
  row : l.ring ++ row_until (next_side l.spans) l.first (length l.next - l.counter) l.side ≡ ring_from l.spans l.first;
  within : All (IsSide (length l.spans)) l.ring;
  long : length l.ring ≡ l.counter;
  side : IsSide (length l.spans) l.side;
}
