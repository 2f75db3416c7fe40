use Rattle.std.proofs.Common.{◌≡◌, Bool, not, drop}
use Rattle.std.specs.Prelude.{◌==◌, ◌&&◌}
use Rattle.std.specs.List.{list_all, list_any}
use Rattle.tgap_model.specs.declared.slice.FaceRow.{FaceRow}
use Rattle.client_replay.specs.Working.{rows_of}
use Rattle.client_replay.proofs.window_rules.are_new.Given as goal

-- all rows are of new faces where those that are left are
abbrev pub invariant-loop-row : goal.invariant-loop-row
invariant-loop-row l =
    let new : FaceRow → Bool = λ row. not (row.face == 0) && not (list_any (λ f. f.face == row.face) (rows_of l.faces.entries)) in
    list_all new (drop l.row-index l.rows) ≡ list_all new l.rows
