use Rattle.std.proofs.Common.{◌≡◌, ◌++◌, take}
use Rattle.std.specs.Prelude.{flat_map}
use Rattle.line_forms.specs.Texts.{lines}
use Rattle.wire_text.specs.SliceTexts.{mend_rows}
use Rattle.wire_text.proofs.packet.put_mends.Given as goal

-- the lines of the mends so far
abbrev pub invariant-loop-mend : goal.invariant-loop-mend
invariant-loop-mend l = l.out ≡ l.fn.out ++ lines (flat_map mend_rows (take l.mend-index l.mends))
