use Rattle.std.proofs.Common.{◌≡◌, ◌/◌, map, Some}
use Rattle.std.specs.List.{range_with_len}
use Rattle.edge_forest.proofs.start.keys_of_ends.Given as goal

abbrev pub invariant-loop-x : goal.invariant-loop-x
invariant-loop-x l = l.ends.items ≡ map (λ x. Some (x / 2)) (range_with_len 0 l.x)
