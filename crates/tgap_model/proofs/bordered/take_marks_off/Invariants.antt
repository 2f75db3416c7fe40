use Rattle.std.proofs.Common.{◌≡◌, ◌%◌, ◌++◌, map, take, drop}
use Rattle.tgap_model.specs.declared.bordered.TheConstants.{MARK}
use Rattle.tgap_model.proofs.bordered.take_marks_off.Given as goal

-- the marks of the entries so far are off
abbrev pub invariant-loop-entry : goal.invariant-loop-entry
invariant-loop-entry l = l.entries ≡ map (λ k. k % MARK) (take l.entry-index l.initial.entries) ++ drop l.entry-index l.initial.entries
