-- One more record.
use Rattle.std.proofs.Common.{List, [], ◌∷◌, ◌++◌, ap₂, ◌∙◌, arith}
use Rattle.tgap_model.specs.declared.record.StepRecord.{StepRecord}
use Rattle.tgap_model.specs.Merged.{merged}
use Rattle.refine_packets.proofs.Down.{one_more}
use Rattle.refine_packets.proofs.records_down.Goals as goal

pub loop-i-preserved : goal.loop-i-preserved
loop-i-preserved c =
    let i = c.loop-i.i in
    c.in_ok-push.ensures
    ∙ ap₂ (λ (rs : List StepRecord) (r : StepRecord). rs ++ r ∷ []) c.loop-i.invariant (c.in_ok-copied_record.ensures ∙ c.record_of.ensures)
    ∙ one_more (merged c.args.built.now) c.args.from i (omega (arith, c.loop-i-test.true)) (omega (arith, c.requires.within))
