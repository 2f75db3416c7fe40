use Rattle.std.proofs.Common.{◌≡◌, ◌<◌, ◌≤◌, ◌*◌, ℕ, Bool, [], length, get_or, map, fold, All}
use Rattle.std.specs.List.{range_with_len}
use Rattle.ring_walk.specs.Sides.{numbered}
use Rattle.ring_walk.specs.Rings.{is_in_ring, with_ring_of}
use Rattle.ring_walk.specs.Spans.{IsRing}
use Rattle.ring_walk.proofs.rings.rings_of.Given as goal

-- the rings so far, and the sides of them
abbrev pub invariant-loop-number : goal.invariant-loop-number
invariant-loop-number l = record {
  rings : l.rings ≡ fold (with_ring_of l.spans) [] (map numbered (range_with_len 0 l.number));
  few : length l.rings ≤ l.number;
  each : All (IsRing (length l.spans)) l.rings;
  long : length l.taken.items ≡ 2 * length l.spans;
  taken : (i : ℕ) (d : Bool) → i < 2 * length l.spans → get_or l.taken.items i d ≡ is_in_ring l.rings (numbered i);
}
