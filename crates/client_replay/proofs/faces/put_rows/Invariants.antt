use Rattle.std.proofs.Common.{◌++◌, nat_cmp, drop}
use Rattle.std.specs.BTreeMap.{IsOrdered}
use Rattle.tgap_model.specs.declared.slice.FaceRow.{FaceRow}
use Rattle.client_replay.specs.Working.{rows_of}
use Rattle.client_replay.proofs.PutOnce.{IsPutting}
use Rattle.client_replay.proofs.faces.put_rows.Given as goal

-- some faces are put in, and the rest are left
abbrev pub invariant-loop-row : goal.invariant-loop-row
invariant-loop-row l = record {
  ordered : IsOrdered nat_cmp l.faces;
  putting : IsPutting (λ (f : FaceRow). f.face) (rows_of l.initial.faces.entries ++ l.rows) (rows_of l.faces.entries) (drop l.row-index l.rows);
}
