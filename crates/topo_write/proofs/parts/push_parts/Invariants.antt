use Rattle.std.proofs.Common.{◌≡◌, ◌++◌, map}
use Rattle.std.specs.List.{range_with_len}
use Rattle.topo_write.specs.Building.{part_at}
use Rattle.topo_write.proofs.parts.push_parts.Given as goal

abbrev pub invariant-loop-place : goal.invariant-loop-place
invariant-loop-place l = l.parts.items ≡ l.fn.parts.items ++ map (part_at l.row l.outer l.inner l.held) (range_with_len 0 l.place)
