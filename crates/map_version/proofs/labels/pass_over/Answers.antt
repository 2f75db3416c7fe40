use Rattle.std.proofs.Common.{◌≡◌, ◌∙◌, ◌+◌, ℕ, List, [], drop, get_or, set, sym, ap, subst}
use Rattle.std.proofs.lemmas.List.{drop_more, get_or_default, set_past}
use Rattle.tgap_model.specs.declared.base.BaseArc.{BaseArc}
use Rattle.tgap_model.specs.Chains.{arc_number}
use Rattle.ring_walk.specs.declared.side.Way.TheVariants.{Along}
use Rattle.arc_places.specs.Borders.{CoversFaces, bordering, face_count}
use Rattle.map_version.specs.declared.labels.SlotSide.{SlotSide}
use Rattle.map_version.specs.Labels.{passed_over, with_side}
use Rattle.map_version.proofs.Relisting.{covers_passed}
use Rattle.map_version.proofs.labels.pass_over.Goals as goal
use Rattle.map_version.proofs.labels.pass_over.Goals.{then-side-slots+in_ok-list, else-side-slots}

pub loop-side-preserved : goal.loop-side-preserved
loop-side-preserved c =
    let face = c.args.face in
    let slots = c.loop-side.slots in
    let borders = c.loop-side.borders in
    let k = c.loop-side.side-index in
    let m : SlotSide = get_or c.args.moved.now k (record { slot = 0; way = Along }) in
    let left = drop (k + 1) c.args.moved.now in
    let b = with_side m.way face (arc_number slots m.slot) in
    let more = drop_more c.args.moved.now k (record { slot = 0; way = Along }) c.loop-side-test.true in
    let whole : passed_over face left (set slots m.slot b) ≡ passed_over face c.args.moved.now c.args.slots.now =
    sym (ap (λ (moved : List SlotSide). passed_over face moved slots) more) ∙ c.loop-side.invariant.0 in
    elim c.if-side-slots.branch [
      | then-side-slots+in_ok-list w ↦
          let here = get_or_default slots m.slot w.index-slots-side.result (record { left = 0; right = 0; points = [] }) w.if-side-slots.true in
          let set_there : c.if-side-slots.slots ≡ set slots m.slot b = w.slots-is ∙ ap (set slots m.slot) (w.set_side.ensures ∙ ap (with_side m.way face) here) in (
            ap (passed_over face left) set_there ∙ whole,
            subst (λ (xs : List BaseArc). CoversFaces (bordering c.if-side-slots.borders) xs) (sym set_there)
                (subst (λ (bs : List (List ℕ)). CoversFaces (bordering bs) (set slots m.slot b)) (sym w.borders-is)
                (covers_passed (bordering borders) (bordering w.list.new.self) slots face m w.if-side-slots.true w.in_ok-list.ensures.listed c.loop-side.invariant.1)),
            ap face_count w.borders-is ∙ (w.in_ok-list.ensures.count ∙ c.loop-side.invariant.2),
          )
      | else-side-slots w ↦ (
        ap (passed_over face left) (w.slots-is ∙ sym (set_past slots m.slot b w.if-side-slots.false)) ∙ whole,
        subst (λ (xs : List BaseArc). CoversFaces (bordering c.if-side-slots.borders) xs) (sym w.slots-is)
            (subst (λ (bs : List (List ℕ)). CoversFaces (bordering bs) slots) (sym w.borders-is) c.loop-side.invariant.1),
        ap face_count w.borders-is ∙ c.loop-side.invariant.2,
      )
    ]
