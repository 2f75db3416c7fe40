use Rattle.std.proofs.Common.{◌≡◌, ◌++◌, map}
use Rattle.std.specs.List.{range_with_len}
use Rattle.generator.specs.GridMap.{level_arc}
use Rattle.generator.proofs.grid.push_row.Given as goal

abbrev pub invariant-loop-i : goal.invariant-loop-i
invariant-loop-i l = l.arcs.items ≡ l.initial.arcs.items ++ map (λ i. level_arc l.n i l.j) (range_with_len 0 l.i)
