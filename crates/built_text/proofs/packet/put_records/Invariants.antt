use Rattle.std.proofs.Common.{◌≡◌, ◌++◌}
use Rattle.std.specs.Prelude.{flat_map}
use Rattle.tgap_model.specs.Merged.{merged}
use Rattle.tgap_model.specs.Records.{records_down}
use Rattle.line_forms.specs.Texts.{lines}
use Rattle.wire_text.specs.SliceTexts.{record_rows}
use Rattle.built_text.proofs.packet.put_records.Given as goal

-- of so many steps
abbrev pub invariant-loop-i : goal.invariant-loop-i
invariant-loop-i l = l.out ≡ l.fn.out ++ lines (flat_map record_rows (records_down (merged l.built) l.from l.i))
