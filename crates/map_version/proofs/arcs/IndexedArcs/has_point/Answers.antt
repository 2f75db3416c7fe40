use Rattle.std.proofs.Common.{◌≡◌, ◌∙◌, ℕ, true, List, sym, ap, subst, arith}
use Rattle.std.specs.List.{list_any}
use Rattle.tgap_model.specs.Base.{same_point}
use Rattle.face_cuts.specs.Nodes.{passes}
use Rattle.arc_places.specs.Places.{arc_passes, is_among, listed, Covers}
use Rattle.arc_places.proofs.Listed.{passes_here}
use Rattle.map_version.specs.Indexed.{Indexed}
use Rattle.map_version.proofs.Listed.{none_more, one_found, none_found}
use Rattle.map_version.proofs.InSlots.{has_in}
use Rattle.map_version.proofs.arcs.IndexedArcs.has_point.Goals as goal

pub loop-at-preserved : goal.loop-at-preserved
loop-at-preserved c =
    let p = c.args.point.now in
    let slots = c.args.self.now.slots in
    none_more (arc_passes (passes p) slots) c.of_point-listed.result c.loop-at.at 0 (omega (arith, c.count-at-end.ensures, c.loop-at-test.true)) c.loop-at.invariant
    (ap (arc_passes (passes p) slots) (sym c.slot.ensures) ∙ passes_here p slots c.slot.result ∙ (ap (list_any (same_point p)) (sym c.points.ensures) ∙ (sym c.has_point.ensures ∙ c.if-has_point.false)))

pub returns-then-has_point : goal.returns-then-has_point
returns-then-has_point c =
    let p = c.args.point.now in
    let slots = c.args.self.now.slots in
    one_found (passes p) slots c.slot.result (passes_here p slots c.slot.result ∙ (ap (list_any (same_point p)) (sym c.points.ensures) ∙ (sym c.has_point.ensures ∙ c.if-has_point.true)))
    ∙ sym (has_in p slots)

pub returns : goal.returns
returns c =
    let p = c.args.point.now in
    let slots = c.args.self.now.slots in
    let numbers = c.of_point-listed.result in
    let covers = subst (λ (x : Indexed). Covers (listed c.self.inside.places) x.slots) c.self.view_is c.self.invariant.by_point in
    none_found (passes p) slots numbers (λ i e. subst (λ (xs : List ℕ). is_among i xs ≡ true) (sym c.of_point-listed.ensures) (covers p i e))
    c.loop-at.at (omega (arith, c.count-at-end.ensures, c.loop-at-test.false)) c.loop-at.invariant
    ∙ sym (has_in p slots)
