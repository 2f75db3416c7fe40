use Rattle.std.proofs.Common.{List, ◌++◌, None, Option, replicate, sym, ap, ◌∙◌, subst₂}
use Rattle.std.proofs.lemmas.List.{append-nil}
use Rattle.tgap_model.specs.declared.geometry.Window.{Window}
use Rattle.grid_index.specs.declared.segments.TheConstants.{NOWHERE}
use Rattle.grid_index.specs.declared.segments.Entry.{Entry}
use Rattle.grid_index.specs.Slots.{held, IsBounded}
use Rattle.grid_index.proofs.Holding.{held-append, held_empty, IsBounded-widened}
use Rattle.grid_index.proofs.slots.Slots.widen.Goals as goal

pub invariant_of-self-2 : goal.invariant_of-self-2
invariant_of-self-2 c =
    let count = c.args.count in
    let slots = c.push_empty.ensures ∙ ap (λ (xs : List (Option Entry)). xs ++ replicate count None) c.reserve.ensures.items in
    let row = c.in_ok-bounds.ensures ∙ c.in_ok-row.ensures ∙ ap (λ (xs : List Window). xs ++ replicate count NOWHERE) (c.as_slice.ensures ∙ c.boxes.ensures) in
    subst₂ IsBounded (sym slots) (sym row) (IsBounded-widened c.self.inside.slots.items c.self.inside.bounds count NOWHERE c.self.invariant)

pub returns-clause-held : goal.returns-clause-held
returns-clause-held c =
    let count = c.args.count in
    let slots = c.push_empty.ensures ∙ ap (λ (xs : List (Option Entry)). xs ++ replicate count None) c.reserve.ensures.items in
    ap held slots ∙ held-append c.self.inside.slots.items (replicate count None) ∙ ap (λ ys. held c.self.inside.slots.items ++ ys) (held_empty count)
    ∙ append-nil (held c.self.inside.slots.items) ∙ ap held c.self.view_is
