use Rattle.std.proofs.Common.{◌≡◌, ◌∙◌, ℕ, true, List, sym, ap, subst, arith}
use Rattle.arc_places.specs.Places.{arc_passes, is_among, listed, Covers}
use Rattle.map_version.specs.Indexed.{Indexed, ends_there}
use Rattle.map_version.proofs.Listed.{ends_listed, none_more, one_found, none_found}
use Rattle.map_version.proofs.InSlots.{node_in}
use Rattle.map_version.proofs.arcs.IndexedArcs.is_node.Goals as goal

pub loop-at-preserved : goal.loop-at-preserved
loop-at-preserved c =
    let p = c.args.point.now in
    let slots = c.args.self.now.slots in
    none_more (arc_passes (ends_there p) slots) c.of_point-listed.result c.loop-at.at 0 (omega (arith, c.count-at-end.ensures, c.loop-at-test.true)) c.loop-at.invariant
    (ap (arc_passes (ends_there p) slots) (sym c.slot.ensures) ∙ sym c.ends_at.ensures ∙ c.if-ends_at.false)

pub returns-then-ends_at : goal.returns-then-ends_at
returns-then-ends_at c =
    let p = c.args.point.now in
    let slots = c.args.self.now.slots in
    one_found (ends_there p) slots c.slot.result (sym c.ends_at.ensures ∙ c.if-ends_at.true) ∙ sym (node_in p slots)

pub returns : goal.returns
returns c =
    let p = c.args.point.now in
    let slots = c.args.self.now.slots in
    let numbers = c.of_point-listed.result in
    let covers = subst (λ (x : Indexed). Covers (listed c.self.inside.places) x.slots) c.self.view_is c.self.invariant.by_point in
    none_found (ends_there p) slots numbers (ends_listed p slots numbers (λ i e. subst (λ (xs : List ℕ). is_among i xs ≡ true) (sym c.of_point-listed.ensures) (covers p i e)))
    c.loop-at.at (omega (arith, c.count-at-end.ensures, c.loop-at-test.false)) c.loop-at.invariant
    ∙ sym (node_in p slots)
