use Rattle.std.proofs.Common.{◌≡◌, ◌==◌, false, take}
use Rattle.std.specs.List.{list_any}
use Rattle.tgap_build.proofs.mends.has_side_of.Given as goal

-- none of the pieces so far
abbrev pub invariant-loop-piece : goal.invariant-loop-piece
invariant-loop-piece l = list_any (λ p. p.side == l.loser) (take l.piece-index l.pieces) ≡ false
