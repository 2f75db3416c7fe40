-- The keys of the segments so far, and the link of the last one of these.
use Rattle.std.proofs.Common.{◌≡◌, flat_map}
use Rattle.std.specs.List.{range_with_len}
use Rattle.planar_sweep.specs.EventKeys.{link_before, own_keys}
use Rattle.planar_sweep.proofs.events.listed_keys.Given as goal

abbrev pub invariant-loop-number : goal.invariant-loop-number
invariant-loop-number l = record {
  listed : l.keys.items ≡ flat_map (own_keys l.segments l.segs) (range_with_len 0 l.number);
  before : l.before ≡ link_before l.segments l.segs l.number;
}
