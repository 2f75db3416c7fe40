-- The records stand from the first step on.
use Rattle.std.proofs.Common.{◌-◌, List, length, ap, ◌∙◌, arith}
use Rattle.std.specs.Prelude.{slice_index_or}
use Rattle.std.proofs.lemmas.List.FromFn.{get_or-map-range_with_len, length-map-range_with_len}
use Rattle.tgap_model.specs.declared.record.StepRecord.{StepRecord}
use Rattle.tgap_model.specs.Base.{BaseMap}
use Rattle.tgap_model.specs.History.{history_of}
use Rattle.tgap_model.specs.Merged.{merged}
use Rattle.tgap_model.specs.Records.{step_record}
use Rattle.tgap_build.specs.Built.{all_records}
use Rattle.tgap_build.proofs.built.Built.record_of.Goals as goal

pub bounds-as_slice-step : goal.bounds-as_slice-step
bounds-as_slice-step c =
    let m = c.args.self.now in
    let kept = c.as_slice.ensures ∙ c.self.invariant.0.records ∙ ap (λ (b : BaseMap). all_records (merged b)) c.self.view_is in
    omega (arith, ap length kept, length-map-range_with_len (step_record (merged m)) 1 (length (history_of m)), c.requires.some, c.requires.within)

pub returns : goal.returns
returns c =
    let m = c.args.self.now in
    let kept = c.as_slice.ensures ∙ c.self.invariant.0.records ∙ ap (λ (b : BaseMap). all_records (merged b)) c.self.view_is in
    c.index-as_slice-step.is
    ∙ ap (λ (rs : List StepRecord). slice_index_or rs (c.args.step - 1) c.index-as_slice-step.result) kept
    ∙ get_or-map-range_with_len (step_record (merged m)) 1 (length (history_of m)) (c.args.step - 1) c.args.step c.index-as_slice-step.result
    (omega (arith, c.requires.some, c.requires.within)) (omega (arith, c.requires.some))
