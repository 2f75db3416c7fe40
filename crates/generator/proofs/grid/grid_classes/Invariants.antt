use Rattle.std.proofs.Common.{◌≡◌, ◌++◌, map, flat_map}
use Rattle.std.specs.List.{range_with_len}
use Rattle.generator.specs.GridMap.{cell_class, row_classes}
use Rattle.generator.proofs.grid.grid_classes.Given as goal

abbrev pub invariant-loop-i : goal.invariant-loop-i
invariant-loop-i l = l.classes.items ≡ l.initial.classes.items ++ map (λ i. cell_class i l.j) (range_with_len 0 l.i)

abbrev pub invariant-loop-j : goal.invariant-loop-j
invariant-loop-j l = l.classes.items ≡ flat_map (row_classes l.n) (range_with_len 0 l.j)
