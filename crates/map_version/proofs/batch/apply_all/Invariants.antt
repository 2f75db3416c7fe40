use Rattle.std.proofs.Common.{◌≡◌, ◌≤◌, length}
use Rattle.edit_laws.specs.Edits.{edit_rows}
use Rattle.map_version.proofs.batch.apply_all.Given as goal

-- what is left makes of the map what the whole made
abbrev pub invariant-loop-words : goal.invariant-loop-words
invariant-loop-words l =
    (edit_rows l.initial.lines.number l.initial.lines.rows l.initial.draft ≡ edit_rows l.lines.number l.lines.rows l.draft)
    × (l.number ≡ l.lines.number) × (1 ≤ length l.lines.rows)

abbrev pub decreases-loop-words : goal.decreases-loop-words
decreases-loop-words l = length l.lines.rows
