-- The steps so far and those to come are the whole history, and each step makes fewer arcs shared.
use Rattle.std.proofs.Common.{◌≡◌, ◌++◌}
use Rattle.tgap_model.specs.History.{history_of}
use Rattle.face_merge.specs.Running.{IsRunning, state_of}
use Rattle.face_merge.proofs.Loop.{count_shared, steps_to_come}
use Rattle.face_merge.proofs.history_of.Given as goal

abbrev pub invariant-loop-merging : goal.invariant-loop-merging
invariant-loop-merging l = record {
  running : IsRunning l.merging;
  base : l.merging.base.now ≡ l.base;
  whole : l.merging.steps ++ steps_to_come (state_of l.merging) ≡ history_of l.base;
}

abbrev pub decreases-loop-merging : goal.decreases-loop-merging
decreases-loop-merging l = count_shared (state_of l.merging)
