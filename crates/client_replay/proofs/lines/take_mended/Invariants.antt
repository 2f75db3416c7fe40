use Rattle.std.proofs.Common.{◌≡◌, nat_cmp, take, filter}
use Rattle.std.specs.BTreeMap.{IsOrdered}
use Rattle.client_replay.proofs.LineTables.{is_unnamed}
use Rattle.client_replay.proofs.lines.take_mended.Given as goal

-- the edges that none of the mends so far names
abbrev pub invariant-loop-mend : goal.invariant-loop-mend
invariant-loop-mend l = record {
  ordered : IsOrdered nat_cmp l.lines;
  left : l.lines.entries ≡ filter (is_unnamed (take l.mend-index l.mends)) l.initial.lines.entries;
}
