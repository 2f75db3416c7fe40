use Rattle.std.proofs.Common.{◌≡◌, take}
use Rattle.tgap_model.proofs.copies.copied_edges.Given as goal

-- the edges so far
abbrev pub invariant-loop-edge : goal.invariant-loop-edge
invariant-loop-edge l = l.copy ≡ take l.edge-index l.edges
