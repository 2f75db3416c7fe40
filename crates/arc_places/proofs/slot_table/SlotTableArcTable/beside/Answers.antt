use Rattle.std.proofs.Common.{◌∙◌, ℕ, List, sym, subst₂}
use Rattle.tgap_model.specs.declared.base.BaseArc.{BaseArc}
use Rattle.arc_places.specs.declared.sought.Sought.TheVariants.{Face}
use Rattle.arc_places.specs.Borders.{bordering}
use Rattle.arc_places.specs.SlotTables.{AreListed}
use Rattle.arc_places.proofs.SeenSlots.{face_listed}
use Rattle.arc_places.proofs.slot_table.SlotTableArcTable.beside.Goals as goal

pub sides_found-requires-clause-listed : goal.sides_found-requires-clause-listed
sides_found-requires-clause-listed c =
    subst₂ (λ (slots : List BaseArc) (numbers : List ℕ). AreListed slots numbers (Face c.args.face)) c.self.view_is (sym (c.plain.ensures ∙ c.of_face.ensures))
    (face_listed (bordering c.self.inside.borders.now) c.self.inside.slots.now c.args.face c.self.invariant.by_face)
