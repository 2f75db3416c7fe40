use Rattle.std.proofs.Common.{◌≡◌, ◌++◌, ◌∷◌, length, map, take, codes}
use Rattle.line_forms.specs.Texts.{lines}
use Rattle.map_forms.specs.Listing.{count_words}
use Rattle.wire_text.specs.SliceTexts.{face_words}
use Rattle.slice_read.specs.Windows.{row_of}
use Rattle.built_text.proofs.slice.put_faces.Given as goal

-- the line of their number, and the lines of the faces so far
abbrev pub invariant-loop-face : goal.invariant-loop-face
invariant-loop-face l =
    l.out ≡ l.fn.out ++ lines (count_words (codes "faces") (length l.faces) ∷ map face_words (map (row_of l.tree) (take l.face-index l.faces)))
