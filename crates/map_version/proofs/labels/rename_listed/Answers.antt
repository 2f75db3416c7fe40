use Rattle.std.proofs.Common.{◌∙◌, ◌+◌, List, [], drop, get_or, set, sym, ap, subst, arith}
use Rattle.std.proofs.lemmas.List.{drop_more, drop_all, get_or_default}
use Rattle.tgap_model.specs.declared.base.BaseArc.{BaseArc}
use Rattle.face_cuts.specs.Fusions.{joined}
use Rattle.arc_places.specs.Borders.{is_beside}
use Rattle.map_version.specs.Labels.{renamed}
use Rattle.map_version.proofs.Changing.{IsChanging, changing_on, changing_past, changing_done}
use Rattle.map_version.proofs.Renaming.{renaming}
use Rattle.map_version.proofs.labels.rename_listed.Goals as goal
use Rattle.map_version.proofs.labels.rename_listed.Goals.{then-slot-slots, else-slot-slots}

pub loop-slot-preserved : goal.loop-slot-preserved
loop-slot-preserved c =
    let to = c.args.to in
    let face = c.args.from in
    let first = c.args.slots.now in
    let slots = c.loop-slot.slots in
    let k = c.loop-slot.slot-index in
    let j = get_or c.args.listed.now k 0 in
    let left = drop (k + 1) c.args.listed.now in
    let changing = subst (IsChanging (renamed (joined to face)) (is_beside face) first slots) (drop_more c.args.listed.now k 0 c.loop-slot-test.true) c.loop-slot.invariant in
    elim c.if-slot-slots.branch [
      | then-slot-slots w ↦
          let here = ap (renamed (joined to face)) (get_or_default slots j w.index-slots-slot.result (record { left = 0; right = 0; points = [] }) w.if-slot-slots.true) in
          let set_there = w.slots-is ∙ ap (set slots j) (w.rename_in.ensures ∙ here) in
          subst (λ (xs : List BaseArc). IsChanging (renamed (joined to face)) (is_beside face) first xs left) (sym set_there)
          (changing_on (renaming to face c.requires.apart) first slots j left w.if-slot-slots.true changing)
      | else-slot-slots w ↦
          subst (λ (xs : List BaseArc). IsChanging (renamed (joined to face)) (is_beside face) first xs left) (sym w.slots-is) (changing_past first slots j left w.if-slot-slots.false changing)
    ]

pub returns : goal.returns
returns c =
    let to = c.args.to in
    let face = c.args.from in
    changing_done (renaming to face c.requires.apart) c.args.slots.now c.loop-slot.slots
    (subst (IsChanging (renamed (joined to face)) (is_beside face) c.args.slots.now c.loop-slot.slots) (drop_all c.loop-slot.slot-index c.args.listed.now (omega arith)) c.loop-slot.invariant)
