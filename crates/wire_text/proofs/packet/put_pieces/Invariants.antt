use Rattle.std.proofs.Common.{◌≡◌, ◌++◌, map, take}
use Rattle.line_forms.specs.Texts.{lines}
use Rattle.wire_text.specs.SliceTexts.{piece_words}
use Rattle.wire_text.proofs.packet.put_pieces.Given as goal

-- the lines of the pieces so far
abbrev pub invariant-loop-piece : goal.invariant-loop-piece
invariant-loop-piece l = l.out ≡ l.fn.out ++ lines (map piece_words (take l.piece-index l.pieces))
