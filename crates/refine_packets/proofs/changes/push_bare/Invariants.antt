use Rattle.std.proofs.Common.{◌≡◌, ◌++◌, map, take}
use Rattle.refine_packets.specs.Walk.{bare}
use Rattle.refine_packets.proofs.changes.push_bare.Given as goal

-- those of the edges so far
abbrev pub invariant-loop-edge : goal.invariant-loop-edge
invariant-loop-edge l = l.edges ≡ l.initial.edges ++ map bare (take l.edge-index l.from)
