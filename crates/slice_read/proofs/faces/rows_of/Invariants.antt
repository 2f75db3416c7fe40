use Rattle.std.proofs.Common.{◌≡◌, map, take}
use Rattle.slice_read.specs.Windows.{row_of}
use Rattle.slice_read.proofs.faces.rows_of.Given as goal

-- of the faces so far
abbrev pub invariant-loop-face : goal.invariant-loop-face
invariant-loop-face l = l.rows ≡ map (row_of l.tree) (take l.face-index l.faces)
