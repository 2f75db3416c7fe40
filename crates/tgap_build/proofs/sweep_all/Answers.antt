-- Each step has its area, and after the last one all that is removed is noted.
use Rattle.std.proofs.Common.{◌≡◌, ◌∙◌, ℕ, ◌+◌, ◌-◌, List, [], ◌∷◌, ◌++◌, length, get_or, refl, sym, ap, ap₂, subst, arith}
use Rattle.std.proofs.lemmas.List.FromFn.{map-range_with_len_more}
use Rattle.tgap_model.specs.declared.merge.MergeStep.{MergeStep}
use Rattle.tgap_model.specs.declared.record.StepRecord.{StepRecord}
use Rattle.tgap_model.specs.Base.{BaseMap}
use Rattle.tgap_model.specs.Merged.{merged, face_area}
use Rattle.tgap_model.specs.Removals.{removals_to}
use Rattle.tgap_model.specs.Records.{step_record}
use Rattle.tgap_model.proofs.BaseFacts.{base_facts}
use Rattle.face_merge.proofs.Steps.{length-history_of}
use Rattle.tgap_build.specs.Built.{HasRemoved}
use Rattle.tgap_build.specs.Running.{AreRunning}
use Rattle.tgap_build.proofs.Lost.{no_step, lost_count, lost_is}
use Rattle.tgap_build.proofs.sweep_all.Goals as goal

pub loop-i-init : goal.loop-i-init
loop-i-init c = record { base = refl; made = c.requires.made; unclosed = c.requires.open; removed = c.requires.removed; running = c.in_ok-live.ensures.running; sought = c.in_ok-live.ensures.sought; corners = c.in_ok-live.ensures.corners; records = c.in_ok-records.ensures }

pub bounds-areas-i : goal.bounds-areas-i
bounds-areas-i c =
    omega (arith, lost_count (merged c.args.forest.now.base) c.args.areas.now c.requires.areas, ap length c.requires.steps, c.loop-i-test.true)

pub make_step-requires-clause-area : goal.make_step-requires-clause-area
make_step-requires-clause-area c =
    let m = c.args.forest.now.base in
    let i = c.loop-i.i in
    lost_is (merged m) c.args.areas.now c.requires.areas i (omega (arith, ap length c.requires.steps, c.loop-i-test.true)) c.requires.small
    ∙ ap₂ (λ (b : BaseMap) (steps : List MergeStep). face_area (merged b) (i + 1 - 1) (get_or steps i no_step).loser) (sym c.loop-i.invariant.base) (sym c.requires.steps)

pub make_step-requires-clause-removed : goal.make_step-requires-clause-removed
make_step-requires-clause-removed c =
    let back : c.loop-i.i ≡ c.loop-i.i + 1 - 1 = omega arith in
    subst (HasRemoved c.loop-i.forest) back c.loop-i.invariant.removed

pub make_step-requires-clause-running : goal.make_step-requires-clause-running
make_step-requires-clause-running c =
    let back : c.loop-i.i ≡ c.loop-i.i + 1 - 1 = omega arith in
    subst (λ (n : ℕ). AreRunning c.loop-i.forest n (removals_to (merged c.loop-i.forest.base) n) c.loop-i.live.edges) back c.loop-i.invariant.running

pub loop-i-preserved : goal.loop-i-preserved
loop-i-preserved c = record {
  base = c.in_ok-make_step.ensures.base ∙ c.loop-i.invariant.base;
  made = c.in_ok-make_step.ensures.made;
  unclosed = c.in_ok-make_step.ensures.open;
  removed = c.in_ok-make_step.ensures.removed;
  running = subst (λ (m : BaseMap). AreRunning c.make_step.new.forest (c.loop-i.i + 1) (removals_to (merged m) (c.loop-i.i + 1)) c.make_step.new.live.edges)
      (sym c.in_ok-make_step.ensures.base) c.in_ok-make_step.ensures.running;
  sought = c.in_ok-make_step.ensures.sought;
  corners = c.in_ok-make_step.ensures.corners;
  records = c.in_ok-push.ensures
      ∙ ap₂ (λ (rs : List StepRecord) (r : StepRecord). rs ++ r ∷ []) c.loop-i.invariant.records
      (c.in_ok-make_step.ensures.record ∙ ap (λ (m : BaseMap). step_record (merged m) (c.loop-i.i + 1)) c.loop-i.invariant.base)
      ∙ sym (map-range_with_len_more (step_record (merged c.args.forest.now.base)) 1 c.loop-i.i (c.loop-i.i + 1) (omega arith));
}

pub overflow_cast-i : goal.overflow_cast-i
overflow_cast-i c =
    let f = c.args.forest.now in
    omega (arith, length-history_of f.base, (base_facts f.base c.requires.forest.base).few_arcs, ap length c.requires.steps, c.loop-i-test.true)

pub overflow_add-i : goal.overflow_add-i
overflow_add-i c =
    let f = c.args.forest.now in
    omega (arith, length-history_of f.base, (base_facts f.base c.requires.forest.base).few_arcs, ap length c.requires.steps, c.loop-i-test.true)
