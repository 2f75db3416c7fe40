use Rattle.std.proofs.Common.{◌<◌, ℕ, get_or}
use Rattle.topo_write.proofs.groups.end_of.Given as goal

abbrev pub invariant-loop-key : goal.invariant-loop-key
invariant-loop-key l = (k d : ℕ) → k < l.key-index → get_or l.keys k d < l.end
