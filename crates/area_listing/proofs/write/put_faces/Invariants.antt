use Rattle.std.proofs.Common.{◌≡◌, ◌++◌, ◌+◌, drop}
use Rattle.line_forms.specs.Texts.{lines}
use Rattle.map_forms.specs.Listing.{face_rows}
use Rattle.area_listing.specs.Written.{all_face_rows}
use Rattle.area_listing.proofs.write.put_faces.Given as goal

-- what is put, and the lines of the faces that are left
abbrev pub invariant-loop-before : goal.invariant-loop-before
invariant-loop-before l = l.out ++ lines (face_rows (l.before + 1) (drop l.before l.classes)) ≡ l.fn.out ++ lines (all_face_rows l.classes)
