-- The classes are those after the steps so far.
use Rattle.std.proofs.Common.{◌≡◌, ◌+◌, fold, length, take}
use Rattle.tgap_model.specs.History.{classes_after}
use Rattle.face_tree.proofs.build.classes_of.Given as goal

abbrev pub invariant-loop-step : goal.invariant-loop-step
invariant-loop-step l = record {
  count : length l.found.items ≡ length l.classes + l.step-index;
  value : l.found.items ≡ fold (λ ks s. classes_after s ks) l.classes (take l.step-index l.steps);
}
