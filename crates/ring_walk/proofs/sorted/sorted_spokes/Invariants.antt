use Rattle.std.proofs.Common.{◌≡◌, map, All}
use Rattle.std.specs.List.{range_with_len}
use Rattle.ring_walk.specs.Sides.{numbered}
use Rattle.ring_walk.specs.Spans.{IsSpokeOf, sides_in}
use Rattle.ring_walk.proofs.sorted.sorted_spokes.Given as goal

-- the spokes of the sides so far were put
abbrev pub invariant-loop-number : goal.invariant-loop-number
invariant-loop-number l = record {
  each : All (IsSpokeOf l.spans) l.spokes.items;
  same : sides_in l.spokes.items ≡ map numbered (range_with_len 0 l.number);
}
