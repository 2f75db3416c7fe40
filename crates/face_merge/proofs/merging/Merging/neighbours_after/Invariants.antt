-- The places are those of the links so far.
use Rattle.std.proofs.Common.{take}
use Rattle.face_merge.specs.Running.{AreNeighboursAfter}
use Rattle.face_merge.proofs.merging.Merging.neighbours_after.Given as goal

abbrev pub invariant-loop-link : goal.invariant-loop-link
invariant-loop-link l = AreNeighboursAfter l.self l.pair (take l.link-index l.links) l.places.items
