-- The faces so far that have no parent.
use Rattle.std.proofs.Common.{◌≡◌, ◌-◌, filter, None, slice_index_or}
use Rattle.std.specs.List.{range_with_len}
use Rattle.std.specs.Option.{is_none}
use Rattle.face_tree.proofs.build.roots_of.Given as goal

abbrev pub invariant-loop-face : goal.invariant-loop-face
invariant-loop-face l = l.found.items ≡ filter (λ f. is_none (slice_index_or l.parents f None)) (range_with_len 1 (l.face - 1))
