use Rattle.std.proofs.Common.{◌≡◌, ◌∙◌, ◌<◌, ◌^◌, ℕ, All, List, map, sym, ap, subst}
use Rattle.std.proofs.lemmas.Result.{IfOk-weaker}
use Rattle.ring_walk.specs.Sides.{numbered}
use Rattle.arc_places.proofs.Rising.{found_in_order, ordered_hold}
use Rattle.arc_places.proofs.ordered.sides_in_order.Goals as goal

pub numbered_sides-requires : goal.numbered_sides-requires
numbered_sides-requires c =
    let few : All (λ (i : ℕ). i < 2 ^ 33) c.ordered-numbers.result.items = ordered_hold (λ i. i < 2 ^ 33) c.args.numbers.items c.ordered-numbers.result.items c.ordered-numbers.ensures c.requires in
    subst (λ (xs : List ℕ). All (λ i. i < 2 ^ 33) xs) (sym c.deref.ensures.value) few

pub returns : goal.returns
returns c =
    IfOk-weaker c.numbered_sides.result (λ found. found.items ≡ map numbered c.deref.result.now) _
    (λ found e n p h. e ∙ ap (λ (xs : List ℕ). map numbered xs) c.deref.ensures.value ∙ found_in_order c.args.numbers.items c.ordered-numbers.result.items n p c.ordered-numbers.ensures h)
    c.numbered_sides.ensures
