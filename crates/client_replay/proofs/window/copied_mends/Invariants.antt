use Rattle.std.proofs.Common.{◌≡◌, take}
use Rattle.client_replay.proofs.window.copied_mends.Given as goal

-- the copies so far
abbrev pub invariant-loop-mend : goal.invariant-loop-mend
invariant-loop-mend l = l.copy ≡ take l.mend-index l.mends
