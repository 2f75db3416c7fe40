-- The starts so far are moved.
use Rattle.std.proofs.Common.{◌≡◌, ◌+◌, ◌++◌, map, take, drop}
use Rattle.chunked_row.proofs.starts.raise.Given as goal

abbrev pub invariant-loop-start : goal.invariant-loop-start
invariant-loop-start l = l.starts ≡ map (λ s. s + 1) (take l.start-index l.initial.starts) ++ drop l.start-index l.initial.starts
