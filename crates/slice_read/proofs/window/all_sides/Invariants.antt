use Rattle.std.proofs.Common.{◌≡◌, take}
use Rattle.slice_read.specs.Windows.{all_sides}
use Rattle.slice_read.proofs.window.all_sides.Given as goal

-- of the edges so far
abbrev pub invariant-loop-edge : goal.invariant-loop-edge
invariant-loop-edge l = l.sides.items ≡ all_sides (take l.edge-index l.edges)
