use Rattle.std.proofs.Common.{◌≡◌, ◌++◌}
use Rattle.std.specs.List.{list_all}
use Rattle.client_replay.specs.Windows.{is_known}
use Rattle.client_replay.specs.Working.{rows_of}
use Rattle.client_replay.proofs.faces.are_known.Given as goal

-- all faces are known where those that are left are
abbrev pub invariant-loop-face : goal.invariant-loop-face
invariant-loop-face l =
    list_all (is_known (rows_of l.faces.entries ++ l.rows)) l.face-iterator ≡ list_all (is_known (rows_of l.faces.entries ++ l.rows)) l.asked.keys
