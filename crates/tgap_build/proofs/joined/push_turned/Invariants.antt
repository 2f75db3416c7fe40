-- The parts so far stand at the end of the stack.
use Rattle.std.proofs.Common.{◌≡◌, ◌++◌, map}
use Rattle.edge_forest.specs.Walks.{turned_part}
use Rattle.tgap_build.proofs.joined.push_turned.Given as goal

abbrev pub invariant-loop-part : goal.invariant-loop-part
invariant-loop-part l = l.stack.items ≡ l.initial.stack.items ++ map turned_part (map (λ p. p.now) l.yielded)
