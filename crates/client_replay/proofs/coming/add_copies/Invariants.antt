use Rattle.std.proofs.Common.{◌≡◌, ◌++◌, take}
use Rattle.client_replay.proofs.coming.add_copies.Given as goal

-- the copies so far
abbrev pub invariant-loop-edge : goal.invariant-loop-edge
invariant-loop-edge l = l.edges.items ≡ l.initial.edges.items ++ take l.edge-index l.copied
