use Rattle.std.proofs.Common.{◌≡◌, take}
use Rattle.refine_packets.specs.Near.{entries_of}
use Rattle.refine_packets.proofs.near.entries_of.Given as goal

-- those of the edges so far
abbrev pub invariant-loop-id : goal.invariant-loop-id
invariant-loop-id l = l.found.items ≡ entries_of l.forest.edges (take l.id-index l.ids)
