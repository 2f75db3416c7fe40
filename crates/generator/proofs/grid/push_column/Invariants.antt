use Rattle.std.proofs.Common.{◌≡◌, ◌++◌, map}
use Rattle.std.specs.List.{range_with_len}
use Rattle.generator.specs.GridMap.{upright_arc}
use Rattle.generator.proofs.grid.push_column.Given as goal

abbrev pub invariant-loop-j : goal.invariant-loop-j
invariant-loop-j l = l.arcs.items ≡ l.initial.arcs.items ++ map (λ j. upright_arc l.n l.i j) (range_with_len 0 l.j)
