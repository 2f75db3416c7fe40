use Rattle.std.proofs.Common.{ℕ, ◌<◌, ◌^◌, List, length, All, sym, subst, arith}
use Rattle.std.proofs.lemmas.List.Elements.{All-weaker}
use Rattle.grid_index.proofs.Ordering.{order_below}
use Rattle.grid_index.proofs.boxes.keys_of.Goals as goal

pub narrowed-requires : goal.narrowed-requires
narrowed-requires c =
    let n = length c.args.boxes.now in
    let few = c.requires in
    let order = c.in_ok-order.order.items in
    subst (λ (numbers : List ℕ). All (λ i. i < 2 ^ 32) numbers) (sym c.deref.ensures.value)
    (All-weaker (λ i. i < n) (λ i. i < 2 ^ 32) (λ i l. omega (arith, few)) order (order_below n order c.in_ok-order.ensures))
