-- the starts of the runs so far, and how many points they have
use Rattle.std.proofs.Common.{◌≡◌, length, take}
use Rattle.point_rope.specs.Runs.{joined, starts_from}
use Rattle.point_rope.proofs.starts.renew.Given as goal

abbrev pub invariant-loop-i : goal.invariant-loop-i
invariant-loop-i l = record {
  room : length l.starts.items ≡ length l.runs;
  begin : take l.i l.starts.items ≡ starts_from 0 (take l.i l.runs);
  counted : l.start ≡ length (joined (take l.i l.runs));
}
