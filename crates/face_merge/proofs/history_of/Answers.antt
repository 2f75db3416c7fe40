-- The loop keeps the whole history as the steps so far and those to come; at its end there are none to come.
use Rattle.std.proofs.Common.{◌≡◌, ◌<◌, ◌≤◌, ◌∙◌, ap, sym, subst, List, [], ◌∷◌, ◌++◌, length, Option, None, MatchOption}
use Rattle.tgap_model.specs.declared.merge.MergeStep.{MergeStep}
use Rattle.tgap_model.specs.Base.{BaseMap}
use Rattle.tgap_model.specs.History.{IsHistory, AreNumbered}
use Rattle.face_merge.specs.declared.merging.Pair.{Pair}
use Rattle.face_merge.specs.Merging.{MergeState, after, after_steps, begin, next_of}
use Rattle.face_merge.specs.Running.{IsNextPair, state_of, step_of}
use Rattle.face_merge.proofs.Start.{history_numbered}
use Rattle.face_merge.proofs.Steps.{history_is, one_history, length-history_of}
use Rattle.face_merge.proofs.Loop.{count_shared, steps_begin, steps_go_on, fewer_shared, steps_end_here}
use Rattle.face_merge.proofs.Held.{one_more_step}
use Rattle.face_merge.proofs.history_of.Goals as goal

-- the map after one more step
state_is : (a b : BaseMap) (before later : List MergeStep) (s : MergeStep) → b ≡ a → later ≡ before ++ s ∷ [] → after_steps b later ≡ after s (after_steps a before)
state_is a b before later s eb es = ap (λ (m : BaseMap). after_steps m later) eb ∙ (ap (after_steps a) es ∙ one_more_step a before s)

pub loop-merging-init : goal.loop-merging-init
loop-merging-init c =
    let r = c.in_ok-merging.merging in
    let start : state_of r ≡ begin c.args.base.now = ap (after_steps r.base.now) c.in_ok-merging.ensures.steps ∙ ap begin c.in_ok-merging.ensures.base in
    record {
      running = c.in_ok-merging.ensures.running;
      base = c.in_ok-merging.ensures.base;
      whole = steps_begin c.args.base.now r.steps (state_of r) start c.in_ok-merging.ensures.steps;
    }

pub loop-merging-smaller : goal.loop-merging-smaller
loop-merging-smaller c =
    let r = c.loop-merging.merging in
    let n = c.in_ok-merging-2.merging in
    let s = step_of r c.in-Some.pair in
    let state = state_is r.base.now n.base.now r.steps n.steps s c.in_ok-merging-2.ensures.base c.in_ok-merging-2.ensures.steps in
    let next = (subst (λ (o : Option Pair). MatchOption o (next_of (state_of r) ≡ None) (IsNextPair r)) c.in-Some.is c.in_ok-pair.ensures).next in
    let less = fewer_shared (state_of r) s next in
    subst (λ (m : MergeState). count_shared m < count_shared (state_of r)) (sym state) less

pub loop-merging-preserved : goal.loop-merging-preserved
loop-merging-preserved c =
    let r = c.loop-merging.merging in
    let n = c.in_ok-merging-2.merging in
    let s = step_of r c.in-Some.pair in
    let state = state_is r.base.now n.base.now r.steps n.steps s c.in_ok-merging-2.ensures.base c.in_ok-merging-2.ensures.steps in
    let next = (subst (λ (o : Option Pair). MatchOption o (next_of (state_of r) ≡ None) (IsNextPair r)) c.in-Some.is c.in_ok-pair.ensures).next in
    record {
      running = c.in_ok-merging-2.ensures.running;
      base = c.in_ok-merging-2.ensures.base ∙ c.loop-merging.invariant.base;
      whole = steps_go_on (state_of r) (state_of n) s r.steps n.steps _ next state c.in_ok-merging-2.ensures.steps c.loop-merging.invariant.whole;
    }

pub returns-clause-exact : goal.returns-clause-exact
returns-clause-exact c =
    let r = c.loop-merging.merging in
    let none = subst (λ (o : Option Pair). MatchOption o (next_of (state_of r) ≡ None) (IsNextPair r)) c.in_default.is c.in_ok-pair.ensures in
    c.into_steps.ensures ∙ steps_end_here (state_of r) r.steps _ none c.loop-merging.invariant.whole

pub returns-clause-steps : goal.returns-clause-steps
returns-clause-steps c = subst (IsHistory c.args.base.now) (sym (returns-clause-exact c)) (history_is c.args.base.now)

pub returns-clause-only : goal.returns-clause-only
returns-clause-only c = λ others p. one_history c.args.base.now others _ p (returns-clause-steps c)

pub returns-clause-numbered : goal.returns-clause-numbered
returns-clause-numbered c =
    subst (AreNumbered (length c.args.base.now.classes)) (sym (returns-clause-exact c)) (history_numbered c.args.base.now c.in_ok-merging.ensures.holds)

pub returns-clause-few : goal.returns-clause-few
returns-clause-few c =
    subst (λ (steps : List MergeStep). length steps ≤ length c.args.base.now.arcs) (sym (returns-clause-exact c)) (length-history_of c.args.base.now)
