use Rattle.std.proofs.Common.{◌≡◌, nat_cmp, take}
use Rattle.std.specs.BTreeMap.{IsOrdered}
use Rattle.client_replay.specs.Working.{rows_of}
use Rattle.client_replay.proofs.faces.faces_of.Given as goal

-- the faces so far
abbrev pub invariant-loop-row : goal.invariant-loop-row
invariant-loop-row l = record {
  rows : rows_of l.faces.entries ≡ take l.row-index l.rows;
  ordered : IsOrdered nat_cmp l.faces;
}
