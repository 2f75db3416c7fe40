-- One more record, and the counts that it leads to.
use Rattle.std.proofs.Common.{◌≡◌, ℕ, ◌+◌, ◌-◌, List, [], ◌∷◌, ◌++◌, sym, ap, ap₂, ◌∙◌, arith}
use Rattle.tgap_model.specs.declared.record.StepRecord.{StepRecord}
use Rattle.tgap_model.specs.declared.window_record.WindowStep.{WindowStep}
use Rattle.tgap_model.specs.Base.{BaseMap}
use Rattle.tgap_model.specs.Merged.{merged}
use Rattle.tgap_model.specs.WindowRecords.{has_key, window_at, window_step}
use Rattle.edge_forest.specs.Forest.{EdgeForest}
use Rattle.refine_packets.specs.Counts.{sides_at}
use Rattle.refine_packets.proofs.WindowDown.{one_more_in}
use Rattle.refine_packets.proofs.window.window_steps_down.Goals as goal

pub loop-i-preserved : goal.loop-i-preserved
loop-i-preserved c =
    let m = c.args.built.now in
    let area = c.in_ok-near.near.area in
    let i = c.loop-i.i in
    let step = c.record_of-record.result.now.step in
    let same : c.forest-forest.result.now.base ≡ m = ap (λ (f : EdgeForest). f.base) c.forest-forest.ensures ∙ c.boxed-boxed.ensures.base in
    let number : step ≡ c.args.from - i = ap (λ (r : StepRecord). r.step) c.record_of-record.ensures in
    let next : step - 1 ≡ c.args.from - (i + 1) = omega (arith, number) in (
      c.in_ok-push.ensures
          ∙ ap₂ (λ (rs : List WindowStep) (r : WindowStep). rs ++ r ∷ []) c.loop-i.invariant.0
          (c.in_ok-window_step.ensures.exact ∙ ap₂ (λ (b : BaseMap) (j : ℕ). window_step (merged b) area j) same number)
          ∙ one_more_in (merged m) area c.args.from i (omega (arith, c.loop-i-test.true)) (omega (arith, c.requires.within)),
      c.in_ok-window_step.ensures.long ∙ c.loop-i.invariant.1,
      λ f. c.in_ok-window_step.ensures.counts f ∙ ap₂ (λ (b : BaseMap) (j : ℕ). sides_at f (window_at (merged b) area j).edges) same next,
      λ k t. sym (ap₂ (λ (b : BaseMap) (j : ℕ). has_key (window_at (merged b) area j).edges k) same next) ∙ c.in_ok-window_step.ensures.known k t,
    )

pub window_step-requires-clause-known : goal.window_step-requires-clause-known
window_step-requires-clause-known c k t =
    let area = c.in_ok-near.near.area in
    let same : c.forest-forest.result.now.base ≡ c.args.built.now = ap (λ (f : EdgeForest). f.base) c.forest-forest.ensures ∙ c.boxed-boxed.ensures.base in
    let number : c.record_of-record.result.now.step ≡ c.args.from - c.loop-i.i = ap (λ (r : StepRecord). r.step) c.record_of-record.ensures in
    ap₂ (λ (b : BaseMap) (j : ℕ). has_key (window_at (merged b) area j).edges k) same number ∙ c.loop-i.invariant.3 k t
