use Rattle.std.proofs.Common.{◌≡◌, ◌∙◌, ◌*◌, ◌&&◌, ℕ, nat_lt, List, filter, length, sym, ap, subst, arith}
use Rattle.std.specs.List.{list_any}
use Rattle.std.proofs.lemmas.List.{take_all}
use Rattle.std.proofs.lemmas.Result.{IfOk-weaker}
use Rattle.ring_walk.specs.Sides.{numbered, sides}
use Rattle.face_cuts.proofs.SpansOfArcs.{count_spans}
use Rattle.arc_places.specs.Places.{is_among}
use Rattle.arc_places.specs.Slots.{arcs_in}
use Rattle.arc_places.specs.SlotTables.{is_found, passes, spans_in}
use Rattle.arc_places.proofs.FoundSides.{all_found}
use Rattle.arc_places.proofs.found.sides_found.Goals as goal

pub returns : goal.returns
returns c =
    let slots = c.args.table.now in
    let sought = c.args.sought.now in
    let numbers = c.args.listed in
    IfOk-weaker c.sides_in_order.result _ (λ found. found.items ≡ filter (passes slots sought) (sides (length (spans_in slots))))
    (λ found e. e (length (spans_in slots)) (passes slots sought) (λ i.
    subst (λ (m : ℕ). is_among i c.loop-at.found.items ≡ (nat_lt i (2 * m) && passes slots sought (numbered i))) (sym (count_spans (arcs_in slots)))
    (c.loop-at.invariant.found i ∙ ap (λ (xs : List ℕ). list_any (is_found slots sought i) xs) (take_all c.loop-at.at numbers (omega (arith, c.count-at-end.ensures, c.loop-at-test.false)))
    ∙ all_found slots sought numbers c.requires.listed i)))
    c.sides_in_order.ensures
