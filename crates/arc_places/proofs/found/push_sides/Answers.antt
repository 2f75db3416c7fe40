use Rattle.std.proofs.Common.{◌≡◌, ◌∙◌, ◌||◌, ℕ, Bool, true, false, refl, sym, ap}
use Rattle.arc_places.specs.Places.{is_among}
use Rattle.arc_places.specs.SlotTables.{is_found}
use Rattle.arc_places.proofs.FoundSides.{none_found}
use Rattle.arc_places.proofs.found.push_sides.Goals as goal

or_none : (a : Bool) → (a || false) ≡ a
or_none true = refl
or_none false = refl

pub returns-in_ok-push_arc-in-Some-clause-found : goal.returns-in_ok-push_arc-in-Some-clause-found
returns-in_ok-push_arc-in-Some-clause-found c = λ i.
    c.in_ok-push_arc-in-Some.ensures.found i ∙ ap (λ (m : ℕ). is_among i c.args.found.now.items || is_found c.args.table.now c.args.sought.now i m) c.in-Some.ensures.found

pub returns-in-None-clause-found : goal.returns-in-None-clause-found
returns-in-None-clause-found c = λ i.
    sym (ap (λ (b : Bool). is_among i c.args.found.now.items || b) (none_found c.args.table.now c.args.sought.now c.args.slot c.in-None.ensures.none i) ∙ or_none (is_among i c.args.found.now.items))
