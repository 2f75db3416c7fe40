use Rattle.std.proofs.Common.{ℕ, List, sym, subst₂}
use Rattle.tgap_model.specs.declared.base.BaseArc.{BaseArc}
use Rattle.arc_places.specs.declared.sought.Sought.TheVariants.{Node}
use Rattle.arc_places.specs.Places.{listed}
use Rattle.arc_places.specs.SlotTables.{AreListed}
use Rattle.arc_places.proofs.SeenSlots.{node_listed}
use Rattle.arc_places.proofs.slot_table.SlotTableArcTable.leaving.Goals as goal

pub sides_found-requires-clause-listed : goal.sides_found-requires-clause-listed
sides_found-requires-clause-listed c =
    subst₂ (λ (slots : List BaseArc) (numbers : List ℕ). AreListed slots numbers (Node c.args.node)) c.self.view_is (sym c.of_point.ensures)
    (node_listed (listed c.self.inside.places.now) c.self.inside.slots.now c.args.node c.self.invariant.by_point)
