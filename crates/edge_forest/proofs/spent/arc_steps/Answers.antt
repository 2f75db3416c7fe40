-- One more arc has its step.
use Rattle.std.proofs.Common.{◌≡◌, ◌+◌, ◌<◌, ℕ, false, List, [], ◌∷◌, length, get_or, sym, ap, ◌∙◌, subst, arith}
use Rattle.std.proofs.lemmas.List.{get_or_read, length_push}
use Rattle.tgap_model.specs.declared.geometry.Point.{Point}
use Rattle.tgap_model.specs.declared.base.BaseArc.{BaseArc}
use Rattle.tgap_model.specs.Chains.{arc_number}
use Rattle.edge_forest.specs.Spent.{is_left, IsBare, AreArcSteps}
use Rattle.edge_forest.proofs.BareChains.{arc_bare}
use Rattle.edge_forest.proofs.PartSpans.{steps_pushed}
use Rattle.edge_forest.proofs.spent.arc_steps.Goals as goal

abbrev no_arc : BaseArc
no_arc = record { left = 0; right = 0; points = [] }

pub loop-arc-preserved : goal.loop-arc-preserved
loop-arc-preserved c =
    let arcs = c.args.arcs.now in
    let t = c.args.removed.now in
    let i = c.loop-arc.arc-index in
    let steps = c.loop-arc.steps.items in
    let s = c.step_between_ends.result in
    let within = c.loop-arc-test.true in
    let read = get_or_read arcs i c.arc-item.result within c.arc-item.is no_arc in
    let same : c.as_slice.result.now ≡ (arc_number arcs i).points = c.as_slice.ensures ∙ ap (λ (a : BaseArc). a.points) read in
    let pushed = c.in_ok-push.ensures.items in
    record {
      count = omega (arith, ap length pushed, length_push steps s, c.loop-arc.invariant.count);
      told = subst (AreArcSteps arcs t) (sym pushed)
          (steps_pushed arcs c.requires t steps s c.loop-arc.invariant.told (λ k past.
          subst (λ (n : ℕ). IsBare arcs t k (record { arc = n; turned = false } ∷ [])) (sym c.loop-arc.invariant.count)
          (arc_bare arcs c.requires t k i within
          (subst (λ (ps : List Point). (j : ℕ) (d : Point) → 0 < j → j + 1 < length ps → is_left t k (get_or ps j d) ≡ false) same (c.step_between_ends.ensures k past)))));
    }
