use Rattle.std.proofs.Common.{◌≡◌, ◌++◌, flat_map}
use Rattle.std.specs.List.{range_with_len}
use Rattle.generator.specs.GridMap.{level_row, upright_column, level_arcs}
use Rattle.generator.proofs.grid.grid_arcs.Given as goal

abbrev pub invariant-loop-j : goal.invariant-loop-j
invariant-loop-j l = l.arcs.items ≡ flat_map (level_row l.n) (range_with_len 0 l.j)

abbrev pub invariant-loop-i : goal.invariant-loop-i
invariant-loop-i l = l.arcs.items ≡ level_arcs l.n ++ flat_map (upright_column l.n) (range_with_len 0 l.i)
