use Rattle.std.proofs.Common.{◌∙◌, ◌||◌, Bool, sym, ap}
use Rattle.std.specs.List.{list_any}
use Rattle.map_version.specs.Labels.{is_other}
use Rattle.map_version.proofs.Renaming.{others_left}
use Rattle.map_version.proofs.arcs.IndexedArcs.is_any_left.Goals as goal

pub returns-then-has_other : goal.returns-then-has_other
returns-then-has_other c =
    let f = c.args.fusion.now.kept in
    let g = c.args.fusion.now.gone in
    let slots = c.args.self.now.slots in
    c.if-has_other.true ∙ sym (others_left f g slots ∙ ap (λ (b : Bool). b || list_any (is_other f g f) slots) (sym c.has_other.ensures ∙ c.if-has_other.true))

pub returns-else-has_other : goal.returns-else-has_other
returns-else-has_other c =
    let f = c.args.fusion.now.kept in
    let g = c.args.fusion.now.gone in
    let slots = c.args.self.now.slots in
    c.has_other-else-has_other.ensures ∙ sym (others_left f g slots ∙ ap (λ (b : Bool). b || list_any (is_other f g f) slots) (sym c.has_other.ensures ∙ c.if-has_other.false))
