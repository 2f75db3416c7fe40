use Rattle.std.proofs.Common.{◌≡◌, ◌∙◌, ℕ, true, ◌&&◌, not, List, get_or, refl, sym, subst}
use Rattle.std.proofs.lemmas.Bool.{and_parts}
use Rattle.tgap_model.specs.Base.{borders_face}
use Rattle.arc_places.specs.Slots.{is_there}
use Rattle.arc_places.specs.Places.{arc_passes, is_among}
use Rattle.arc_places.specs.Borders.{CoversFaces, bordering, is_beside}
use Rattle.map_version.specs.Indexed.{Indexed}
use Rattle.map_version.specs.Labels.{is_other, is_taken}
use Rattle.map_version.proofs.Listed.{none_more, one_found, none_found, passes_more, passes_number}
use Rattle.map_version.proofs.arcs.IndexedArcs.has_other.Goals as goal

pub loop-slot-preserved : goal.loop-slot-preserved
loop-slot-preserved c =
    let test = is_other c.args.fusion.now.kept c.args.fusion.now.gone c.args.face in
    let numbers = c.of_face-slot-items.result.now in
    none_more (arc_passes test c.args.self.now.slots) numbers c.loop-slot.slot-index 0 c.loop-slot-test.true c.loop-slot.invariant
    (passes_number test refl c.args.self.now.slots (get_or numbers c.loop-slot.slot-index 0) ∙ (sym c.is_other_at.ensures ∙ c.if-is_other_at.false))

pub returns-then-is_other_at : goal.returns-then-is_other_at
returns-then-is_other_at c =
    let test = is_other c.args.fusion.now.kept c.args.fusion.now.gone c.args.face in
    let i = get_or c.of_face-slot-items.result.now c.loop-slot.slot-index 0 in
    one_found test c.args.self.now.slots i (passes_number test refl c.args.self.now.slots i ∙ (sym c.is_other_at.ensures ∙ c.if-is_other_at.true))

pub returns : goal.returns
returns c =
    let f = c.args.fusion.now.kept in
    let g = c.args.fusion.now.gone in
    let h = c.args.face in
    let slots = c.args.self.now.slots in
    let covers = subst (λ (x : Indexed). CoversFaces (bordering c.self.inside.borders) x.slots) c.self.view_is c.self.invariant.by_face in
    none_found (is_other f g h) slots c.of_face-slot-items.result.now
    (λ i e. subst (λ (xs : List ℕ). is_among i xs ≡ true) (sym c.of_face-slot-items.ensures)
    (covers h i (passes_more (is_other f g h) (is_beside h) (λ a t. (and_parts (is_there a && borders_face h a) (not (is_taken f g a)) t).0) slots i e)))
    c.loop-slot.slot-index c.loop-slot-test.false c.loop-slot.invariant
