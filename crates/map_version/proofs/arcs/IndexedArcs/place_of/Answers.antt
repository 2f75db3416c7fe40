use Rattle.std.proofs.Common.{◌≡◌, ◌∙◌, ℕ, List, ap, sym, subst, arith}
use Rattle.std.specs.Prelude.{option_map}
use Rattle.std.proofs.lemmas.List.{take_all}
use Rattle.arc_places.specs.Places.{listed, Covers}
use Rattle.map_version.specs.Indexed.{Indexed}
use Rattle.map_version.specs.Positions.{position, sought_point}
use Rattle.map_version.proofs.InSlots.{first_in, numbered}
use Rattle.map_version.proofs.Least.{IsLeast, FindsListed, nothing_there, finds_listed, least_is_first, numbered_first}
use Rattle.map_version.proofs.arcs.IndexedArcs.place_of.Goals as goal

pub returns-clause-first : goal.returns-clause-first
returns-clause-first c =
    let sought = c.args.sought.now in
    let find = position sought in
    let slots = c.args.self.now.slots in
    let numbers = c.of_point-listed.result in
    let lists = listed c.self.inside.places in
    let covers = subst (λ (x : Indexed). Covers lists x.slots) c.self.view_is c.self.invariant.by_point in
    let same : lists (sought_point sought) ≡ numbers = ap lists (sym c.point.ensures) ∙ sym c.of_point-listed.ensures in
    numbered_first slots c.loop-at.first
    ∙ (ap (option_map (numbered slots)) (least_is_first find slots numbers c.loop-at.first (nothing_there sought)
    (subst (FindsListed find slots) same (finds_listed lists slots sought covers))
    (subst (λ (xs : List ℕ). IsLeast find slots xs c.loop-at.first) (take_all c.loop-at.at numbers (omega (arith, c.count-at-end.ensures, c.loop-at-test.false))) c.loop-at.invariant))
    ∙ sym (first_in find (nothing_there sought) slots))
