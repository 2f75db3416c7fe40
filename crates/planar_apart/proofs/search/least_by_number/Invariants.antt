-- The segments up to this one meet none of greater number.
use Rattle.std.proofs.Common.{◌≡◌, ◌<◌, ℕ, length, None}
use Rattle.planar_apart.specs.Rows.{row_at, numbered, meeting_of}
use Rattle.planar_apart.proofs.search.least_by_number.Given as goal

abbrev pub invariant-loop-i : goal.invariant-loop-i
invariant-loop-i l =
    (j : ℕ) → j < l.i → (k : ℕ) → k < length l.row → j < (row_at l.row k).number → meeting_of (numbered l.segments j) (row_at l.row k) ≡ None
