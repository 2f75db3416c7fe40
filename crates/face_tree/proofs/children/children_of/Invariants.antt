-- The faces of the steps so far.
use Rattle.std.proofs.Common.{◌≡◌, take}
use Rattle.face_tree.specs.Tree.{children}
use Rattle.face_tree.proofs.children.children_of.Given as goal

abbrev pub invariant-loop-step : goal.invariant-loop-step
invariant-loop-step l = l.found.items ≡ children (take l.step-index l.steps)
