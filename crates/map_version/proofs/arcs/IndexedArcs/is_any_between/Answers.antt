use Rattle.std.proofs.Common.{◌≡◌, ◌∙◌, ℕ, true, List, get_or, refl, sym, subst}
use Rattle.face_cuts.specs.Fusions.{is_between}
use Rattle.arc_places.specs.Places.{arc_passes, is_among}
use Rattle.arc_places.specs.Borders.{CoversFaces, bordering, is_beside}
use Rattle.map_version.specs.Indexed.{Indexed}
use Rattle.map_version.specs.Labels.{is_taken}
use Rattle.map_version.proofs.Listed.{none_more, one_found, none_found, passes_more, passes_number}
use Rattle.map_version.proofs.InSlots.{any_in}
use Rattle.map_version.proofs.Renaming.{taken_beside}
use Rattle.map_version.proofs.arcs.IndexedArcs.is_any_between.Goals as goal

pub loop-slot-preserved : goal.loop-slot-preserved
loop-slot-preserved c =
    let test = is_taken c.args.fusion.now.kept c.args.fusion.now.gone in
    let numbers = c.of_face-slot-items.result.now in
    none_more (arc_passes test c.args.self.now.slots) numbers c.loop-slot.slot-index 0 c.loop-slot-test.true c.loop-slot.invariant
    (passes_number test refl c.args.self.now.slots (get_or numbers c.loop-slot.slot-index 0) ∙ (sym c.is_between_at.ensures ∙ c.if-is_between_at.false))

pub returns-then-is_between_at : goal.returns-then-is_between_at
returns-then-is_between_at c =
    let f = c.args.fusion.now.kept in
    let g = c.args.fusion.now.gone in
    let slots = c.args.self.now.slots in
    let i = get_or c.of_face-slot-items.result.now c.loop-slot.slot-index 0 in
    one_found (is_taken f g) slots i (passes_number (is_taken f g) refl slots i ∙ (sym c.is_between_at.ensures ∙ c.if-is_between_at.true)) ∙ sym (any_in (is_between f g) slots)

pub returns : goal.returns
returns c =
    let f = c.args.fusion.now.kept in
    let g = c.args.fusion.now.gone in
    let slots = c.args.self.now.slots in
    let numbers = c.of_face-slot-items.result.now in
    let covers = subst (λ (x : Indexed). CoversFaces (bordering c.self.inside.borders) x.slots) c.self.view_is c.self.invariant.by_face in
    none_found (is_taken f g) slots numbers
    (λ i e. subst (λ (xs : List ℕ). is_among i xs ≡ true) (sym c.of_face-slot-items.ensures) (covers g i (passes_more (is_taken f g) (is_beside g) (λ a h. taken_beside f g a h) slots i e)))
    c.loop-slot.slot-index c.loop-slot-test.false c.loop-slot.invariant
    ∙ sym (any_in (is_between f g) slots)
