use Rattle.std.proofs.Common.{◌≡◌, ℕ, ◌<◌, false, ◌==◌, get_or}
use Rattle.plain_io.proofs.text.pieces.first_piece.Given as goal

-- no byte before this one is a separator
abbrev pub invariant-loop-at : goal.invariant-loop-at
invariant-loop-at l = (k : ℕ) → k < l.at → (get_or l.bytes k 0 == l.separator) ≡ false
