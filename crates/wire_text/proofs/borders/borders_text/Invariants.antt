use Rattle.std.proofs.Common.{◌≡◌, ◌++◌, [], ◌∷◌, map, take, codes, decimal}
use Rattle.line_forms.specs.Texts.{line, lines, border_words}
use Rattle.wire_text.proofs.borders.borders_text.Given as goal

-- the first line, and the lines of the rows so far
abbrev pub invariant-loop-row : goal.invariant-loop-row
invariant-loop-row l = l.text ≡ line (codes "borders" ∷ decimal l.k ∷ []) ++ lines (map border_words (take l.row-index l.rows))
