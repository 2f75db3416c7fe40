use Rattle.std.proofs.Common.{◌≡◌, ◌++◌, slice_index, drop}
use Rattle.commands.specs.Border.{border_by}
use Rattle.commands.proofs.border_rows.rows_of.Given as goal

-- the rows so far and those of the arcs that are left are those of all
abbrev pub invariant-loop-i : goal.invariant-loop-i
invariant-loop-i l = l.rows ++ border_by (slice_index l.labels) l.i (drop l.i l.arcs) ≡ border_by (slice_index l.labels) 0 l.arcs
