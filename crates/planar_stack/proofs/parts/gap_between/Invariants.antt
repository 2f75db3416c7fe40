-- The sweep is at this line, and no line of the part before it has a fault.
use Rattle.std.proofs.Common.{◌≡◌, ℕ, ◌<◌, ◌≤◌, List, pos, get_or, None}
use Rattle.tgap_model.specs.declared.segment.LabelledSegment.{LabelledSegment}
use Rattle.tgap_model.specs.Partition.{stack_fault}
use Rattle.planar_stack.specs.Parts.{IsSweep, IsReached}
use Rattle.planar_stack.proofs.parts.gap_between.Given as goal

abbrev pub invariant-loop-i : goal.invariant-loop-i
invariant-loop-i l = record {
  reached : IsReached (get_or l.lines l.i (pos 0)) l.starts l.ends l.sweep;
  sound : (segments : List LabelledSegment) → IsSweep segments l.starts l.ends l.lines → (k : ℕ) → l.from ≤ k → k < l.i → stack_fault segments (get_or l.lines k (pos 0)) ≡ None;
}
