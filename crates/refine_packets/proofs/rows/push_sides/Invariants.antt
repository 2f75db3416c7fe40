use Rattle.std.proofs.Common.{◌≡◌, ◌++◌, take}
use Rattle.slice_read.specs.Windows.{all_sides}
use Rattle.refine_packets.proofs.rows.push_sides.Given as goal

-- those of the edges so far
abbrev pub invariant-loop-edge : goal.invariant-loop-edge
invariant-loop-edge l = l.faces.items ≡ l.initial.faces.items ++ all_sides (take l.edge-index l.edges)
