-- The segments of the edges with the keys so far.
use Rattle.std.proofs.Common.{◌≡◌, take}
use Rattle.std.specs.List.{flat_map}
use Rattle.tgap_build.specs.Sought.{segments_in}
use Rattle.tgap_build.proofs.live_ropes.segments_of.Given as goal

abbrev pub invariant-loop-key : goal.invariant-loop-key
invariant-loop-key l = l.found ≡ flat_map (segments_in l.area l.places) (take l.key-index l.keys)
