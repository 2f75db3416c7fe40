use Rattle.std.proofs.Common.{◌∙◌, ◌+◌, List, [], length, drop, get_or, set, sym, ap, subst, arith}
use Rattle.std.proofs.lemmas.List.{drop_more, drop_all, get_or_default}
use Rattle.tgap_model.specs.declared.base.BaseArc.{BaseArc}
use Rattle.tgap_model.specs.Chains.{arc_number}
use Rattle.arc_places.specs.Slots.{is_there}
use Rattle.map_version.specs.Indexed.{AreCounted}
use Rattle.map_version.specs.Labels.{cleared, counted_without, is_taken}
use Rattle.map_version.proofs.Changing.{IsChanging, changing_on, changing_past, changing_done}
use Rattle.map_version.proofs.Counting.{count_in, counted_cleared, one_there, points_within}
use Rattle.map_version.proofs.Renaming.{clearing}
use Rattle.map_version.proofs.labels.Fusion.clear_listed.Goals as goal
use Rattle.map_version.proofs.labels.Fusion.clear_listed.Goals.{then-slot-slots, else-slot-slots}

pub clear-requires-clause-arcs : goal.clear-requires-clause-arcs
clear-requires-clause-arcs c = λ there.
    let slots = c.loop-slot.slots in
    let j = get_or c.args.listed.now c.loop-slot.slot-index 0 in
    let here = get_or_default slots j c.index-slots-slot.result (record { left = 0; right = 0; points = [] }) c.if-slot-slots.true in
    let some = one_there slots j c.if-slot-slots.true (sym (ap is_there here) ∙ there) in
    let arcs = c.loop-slot.invariant.1.arcs_are in
    omega arith

pub clear-requires-clause-points : goal.clear-requires-clause-points
clear-requires-clause-points c =
    let slots = c.loop-slot.slots in
    let j = get_or c.args.listed.now c.loop-slot.slot-index 0 in
    let here = ap (λ (a : BaseArc). length a.points) (get_or_default slots j c.index-slots-slot.result (record { left = 0; right = 0; points = [] }) c.if-slot-slots.true) in
    let some = points_within slots j c.if-slot-slots.true in
    let points = c.loop-slot.invariant.1.points_are in
    let all = count_in slots in
    omega arith

pub loop-slot-preserved : goal.loop-slot-preserved
loop-slot-preserved c =
    let f = c.args.self.now.kept in
    let g = c.args.self.now.gone in
    let first = c.args.slots.now in
    let slots = c.loop-slot.slots in
    let counts = c.loop-slot.counts in
    let k = c.loop-slot.slot-index in
    let j = get_or c.args.listed.now k 0 in
    let left = drop (k + 1) c.args.listed.now in
    let changing = subst (IsChanging (cleared f g) (is_taken f g) first slots) (drop_more c.args.listed.now k 0 c.loop-slot-test.true) c.loop-slot.invariant.0 in
    elim c.if-slot-slots.branch [
      | then-slot-slots w ↦
          let here = get_or_default slots j w.index-slots-slot.result (record { left = 0; right = 0; points = [] }) w.if-slot-slots.true in
          let set_there = w.slots-is ∙ ap (set slots j) (w.clear.ensures.arc ∙ ap (cleared f g) here) in
          let counts_there = w.counts-is ∙ (w.clear.ensures.counts ∙ ap (λ (a : BaseArc). counted_without f g a counts) here) in (
            subst (λ (xs : List BaseArc). IsChanging (cleared f g) (is_taken f g) first xs left) (sym set_there) (changing_on (clearing f g) first slots j left w.if-slot-slots.true changing),
            subst (λ (xs : List BaseArc). AreCounted xs c.if-slot-slots.counts) (sym set_there)
                (subst (AreCounted (set slots j (cleared f g (arc_number slots j)))) (sym counts_there) (counted_cleared f g slots j counts w.if-slot-slots.true c.loop-slot.invariant.1)),
          )
      | else-slot-slots w ↦ (
        subst (λ (xs : List BaseArc). IsChanging (cleared f g) (is_taken f g) first xs left) (sym w.slots-is) (changing_past first slots j left w.if-slot-slots.false changing),
        subst (λ (xs : List BaseArc). AreCounted xs c.if-slot-slots.counts) (sym w.slots-is) (subst (AreCounted slots) (sym w.counts-is) c.loop-slot.invariant.1),
      )
    ]

pub returns-clause-slots : goal.returns-clause-slots
returns-clause-slots c =
    let f = c.args.self.now.kept in
    let g = c.args.self.now.gone in
    changing_done (clearing f g) c.args.slots.now c.loop-slot.slots
    (subst (IsChanging (cleared f g) (is_taken f g) c.args.slots.now c.loop-slot.slots) (drop_all c.loop-slot.slot-index c.args.listed.now (omega arith)) c.loop-slot.invariant.0)
