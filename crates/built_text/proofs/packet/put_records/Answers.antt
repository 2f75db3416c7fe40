-- One more record.
use Rattle.std.proofs.Common.{ap, ◌∙◌, ◌++◌, arith}
use Rattle.tgap_model.specs.declared.record.StepRecord.{StepRecord}
use Rattle.tgap_model.specs.Merged.{merged}
use Rattle.line_forms.specs.Texts.{lines}
use Rattle.wire_text.specs.SliceTexts.{record_rows}
use Rattle.built_text.proofs.PacketParts.{record_put}
use Rattle.built_text.proofs.packet.put_records.Goals as goal

pub loop-i-preserved : goal.loop-i-preserved
loop-i-preserved c =
    let i = c.loop-i.i in
    record_put c.args.out.now c.loop-i.out c.put_record.new.out (merged c.args.built.now) c.args.from i (omega (arith, c.loop-i-test.true)) (omega (arith, c.requires.within))
    c.loop-i.invariant
    (c.in_ok-put_record.ensures ∙ ap (λ (r : StepRecord). c.loop-i.out ++ lines (record_rows r)) c.record_of.ensures)
