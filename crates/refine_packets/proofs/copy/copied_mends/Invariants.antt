use Rattle.std.proofs.Common.{◌≡◌, take}
use Rattle.refine_packets.proofs.copy.copied_mends.Given as goal

-- of the mends so far
abbrev pub invariant-loop-mend : goal.invariant-loop-mend
invariant-loop-mend l = l.copies ≡ take l.mend-index l.mends
