-- The loser and the winner of each step are faces whose areas are at hand, and the new face gets their sum.
use Rattle.std.proofs.Common.{arith, ◌≡◌, ◌≤◌, ◌+◌, ◌∙◌, All, unsigned_abs, sym, ap, subst, ℤ, List, [], ◌∷◌, ◌++◌, pos, drop, length, map, slice_index_or}
use Rattle.std.proofs.lemmas.List.{get_or_default}
use Rattle.std.proofs.lemmas.List.Elements.{All-nil, All-cons, All-append}
use Rattle.tgap_model.specs.Bounds.{max_area}
use Rattle.tgap_model.specs.Merged.{MergedMap}
use Rattle.face_merge.specs.Areas.{joined_area}
use Rattle.face_merge.specs.Merging.{IsMerging, AreAreas, begin}
use Rattle.face_merge.proofs.Sums.{face_area_is, joined_is}
use Rattle.face_merge.proofs.Reached.{IsReached, IsReady, state_at, no_step, reached_begin, ready_at, reached_more, lost_more}
use Rattle.tgap_model.specs.History.{labelled}
use Rattle.face_merge.proofs.Start.{merging_start}
use Rattle.face_merge.proofs.areas.lost_areas.Goals as goal

pub loop-step-init : goal.loop-step-init
loop-step-init c =
    let m = c.args.base.now in
    let known : IsMerging (begin m) = merging_start m c.in_ok-areas.ensures.base in
    let areas : AreAreas (length m.classes) (map labelled m.arcs) c.in_ok-areas.areas.items = c.in_ok-areas.ensures.areas in
    record {
      told = c.in_ok-lost.ensures;
      small = subst (All (λ area. unsigned_abs area ≤ max_area)) (sym c.in_ok-lost.ensures) (All-nil (λ (area : ℤ). unsigned_abs area ≤ max_area));
      reached = subst (IsReached (begin m) c.in_ok-areas.areas.items) (sym c.requires.steps) (reached_begin m c.in_ok-areas.areas.items known areas);
    }

pub index-requires : goal.index-requires
index-requires c =
    let h : MergedMap = record { base = c.args.base.now; steps = c.args.steps.now } in
    let ready = ready_at h c.loop-step.step-index c.loop-step.areas.items c.loop-step-test.true c.loop-step.invariant.reached in
    omega (arith, ready.loser.below, c.loop-step.areas.ok.0)

-- what is known of the step of a turn
ready_here : (c : goal.After-deref) → let h : MergedMap = record { base = c.args.base.now; steps = c.args.steps.now } in
    IsReady (state_at h c.loop-step.step-index) c.deref.result.now (slice_index_or h.steps c.loop-step.step-index no_step)
ready_here c =
    let h : MergedMap = record { base = c.args.base.now; steps = c.args.steps.now } in
    rw c.deref.ensures.value (ready_at h c.loop-step.step-index c.loop-step.areas.items c.loop-step-test.true c.loop-step.invariant.reached)

pub joined-area-requires-clause-loser : goal.joined-area-requires-clause-loser
joined-area-requires-clause-loser c = (ready_here c).loser.below

pub joined-area-requires-clause-winner : goal.joined-area-requires-clause-winner
joined-area-requires-clause-winner c = (ready_here c).winner.below

pub joined-area-requires-clause-loser_area : goal.joined-area-requires-clause-loser_area
joined-area-requires-clause-loser_area c = (ready_here c).loser_small

pub joined-area-requires-clause-winner_area : goal.joined-area-requires-clause-winner_area
joined-area-requires-clause-winner_area c = (ready_here c).winner_small

pub loop-step-preserved : goal.loop-step-preserved
loop-step-preserved c =
    let h : MergedMap = record { base = c.args.base.now; steps = c.args.steps.now } in
    let k = c.loop-step.step-index in
    let areas = c.loop-step.areas.items in
    let lost = c.loop-step.lost in
    let inside = c.loop-step-test.true in
    let reached = c.loop-step.invariant.reached in
    let s = slice_index_or h.steps k no_step in
    let ready = ready_at h k areas inside reached in
    let loser = slice_index_or areas s.loser (pos 0) in
    let winner = slice_index_or areas s.winner (pos 0) in
    let read : c.index.result.now ≡ loser = c.index.ensures ∙ get_or_default areas s.loser c.index.result.now (pos 0) ready.loser.below in
    let told : c.push.new.self ≡ lost ++ loser ∷ [] =
    c.in_ok-push.ensures ∙ ap (λ (z : ℤ). lost ++ z ∷ []) (face_area_is loser c.index.result.now ready.loser_small read) in
    let sum : c.joined-area.result ≡ joined_area areas s = c.joined-area.ensures ∙ ap (λ (xs : List ℤ). joined_area xs s) c.deref.ensures.value in
    let pushed : c.push-in-loop-step.new.self.items ≡ areas ++ joined_area areas s ∷ [] =
    c.in_ok-push-2.ensures.items
    ∙ ap (λ (z : ℤ). areas ++ z ∷ []) (joined_is loser winner c.joined-area.result ready.loser_small ready.winner_small sum)
    in
    record {
      told = told ∙ lost_more h k areas lost inside reached c.loop-step.invariant.told;
      small = subst (All (λ area. unsigned_abs area ≤ max_area)) (sym told)
          (All-append (λ (area : ℤ). unsigned_abs area ≤ max_area) lost (loser ∷ []) c.loop-step.invariant.small
          (All-cons (λ (area : ℤ). unsigned_abs area ≤ max_area) loser [] ready.loser_small (All-nil (λ (area : ℤ). unsigned_abs area ≤ max_area))));
      reached = subst (λ (xs : List ℤ). IsReached (state_at h (k + 1)) xs (drop (k + 1) h.steps)) (sym pushed) (reached_more h k areas inside reached);
    }
