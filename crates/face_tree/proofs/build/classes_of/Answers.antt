-- The winner of each step is one of the faces so far.
use Rattle.std.proofs.Common.{arith, ◌≡◌, ◌+◌, ◌-◌, ◌∙◌, ap, sym, [], ◌∷◌, ◌++◌, ℕ, length, slice_index_or}
use Rattle.std.proofs.lemmas.List.{get_or_read, length_push}
use Rattle.std.proofs.lemmas.List.Sums.{fold_more}
use Rattle.tgap_model.specs.declared.merge.MergeStep.{MergeStep}
use Rattle.tgap_model.specs.History.{classes_after, class_of, IsNumberedStep}
use Rattle.map_laws.proofs.MergeSteps.{numbered_at}
use Rattle.face_tree.proofs.build.classes_of.Goals as goal

abbrev no_step : MergeStep
no_step = record { loser = 0; winner = 0; made = 0 }

pub overflow_sub-step : goal.overflow_sub-step
overflow_sub-step c =
    let s = numbered_at (length c.args.classes.now) c.args.steps.now c.loop-step.step-index no_step c.requires.numbered c.loop-step-test.true in
    omega (arith, s.winner.0)

pub index-requires : goal.index-requires
index-requires c =
    let s = numbered_at (length c.args.classes.now) c.args.steps.now c.loop-step.step-index no_step c.requires.numbered c.loop-step-test.true in
    omega (arith, s.winner.0, s.winner.1, c.loop-step.invariant.count, c.loop-step.found.ok.0)

pub loop-step-preserved : goal.loop-step-preserved
loop-step-preserved c =
    let i = c.loop-step.step-index in
    let steps = c.args.steps.now in
    let s : MergeStep = slice_index_or steps i no_step in
    let found = c.loop-step.found.items in
    let class = c.index.result.now in
    let numbered : IsNumberedStep (length c.args.classes.now + i) s = numbered_at (length c.args.classes.now) steps i no_step c.requires.numbered c.loop-step-test.true in
    let read : class ≡ class_of found s.winner =
    get_or_read found (s.winner - 1) class (omega (arith, numbered.winner.0, numbered.winner.1, c.loop-step.invariant.count)) c.index.ensures 0 in
    let pushed : c.push.new.self.items ≡ classes_after s found = c.in_ok-push.ensures.items ∙ ap (λ (k : ℕ). found ++ k ∷ []) read in
    record {
      count = omega (arith, ap length pushed, length_push found (class_of found s.winner), c.loop-step.invariant.count);
      value = pushed ∙ ap (classes_after s) c.loop-step.invariant.value ∙ sym (fold_more (λ ks r. classes_after r ks) c.args.classes.now steps i no_step c.loop-step-test.true);
    }
