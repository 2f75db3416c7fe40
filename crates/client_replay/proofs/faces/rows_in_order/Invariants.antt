use Rattle.std.proofs.Common.{◌≡◌, ◌++◌}
use Rattle.client_replay.specs.Working.{rows_of}
use Rattle.client_replay.proofs.faces.rows_in_order.Given as goal

-- the rows so far, and those that are left
abbrev pub invariant-loop-face : goal.invariant-loop-face
invariant-loop-face l = l.rows.items ++ rows_of l.face-iterator ≡ rows_of l.fn.faces.entries
