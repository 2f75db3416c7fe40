-- The vertices so far.
use Rattle.std.proofs.Common.{◌≡◌, sum_by, take, length}
use Rattle.tgap_model.specs.declared.record.Mend.{Mend}
use Rattle.commands.proofs.grid.puts_of.Given as goal

abbrev pub invariant-loop-mend : goal.invariant-loop-mend
invariant-loop-mend l = l.count ≡ sum_by (λ (m : Mend). length m.puts) (take l.mend-index l.mend-items)
