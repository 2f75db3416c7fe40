use Rattle.std.proofs.Common.{ℕ, List, sym, subst, subst₂}
use Rattle.tgap_model.specs.declared.base.BaseArc.{BaseArc}
use Rattle.tgap_model.specs.declared.geometry.Point.{Point}
use Rattle.arc_places.specs.declared.sought.Sought.TheVariants.{Node}
use Rattle.arc_places.specs.Places.{listed}
use Rattle.arc_places.specs.SlotTables.{AreListed}
use Rattle.arc_places.proofs.SeenSlots.{node_listed}
use Rattle.arc_places.proofs.slot_table.SlotTableArcTable.next.Goals as goal

pub in_front-requires-clause-listed : goal.in_front-requires-clause-listed
in_front-requires-clause-listed c =
    let v = c.start_of-node.result in
    subst (λ (u : Point). AreListed c.args.self.now c.of_point.result (Node u)) c.start_of-node.ensures
    (subst₂ (λ (slots : List BaseArc) (numbers : List ℕ). AreListed slots numbers (Node v)) c.self.view_is (sym c.of_point.ensures)
    (node_listed (listed c.self.inside.places.now) c.self.inside.slots.now v c.self.invariant.by_point))
