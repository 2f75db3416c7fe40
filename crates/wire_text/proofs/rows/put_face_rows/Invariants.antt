use Rattle.std.proofs.Common.{◌≡◌, ◌++◌, map, take}
use Rattle.line_forms.specs.Texts.{lines}
use Rattle.wire_text.specs.SliceTexts.{face_words}
use Rattle.wire_text.proofs.rows.put_face_rows.Given as goal

-- the lines of the faces so far
abbrev pub invariant-loop-face : goal.invariant-loop-face
invariant-loop-face l = l.out ≡ l.fn.out ++ lines (map face_words (take l.face-index l.faces))
