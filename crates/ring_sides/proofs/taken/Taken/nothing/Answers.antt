use Rattle.ring_sides.proofs.Steps.{nothing_from}
use Rattle.ring_sides.proofs.taken.Taken.nothing.Goals as goal

pub returns : goal.returns
returns c =
    nothing_from c.args.arcs.now c.new.result _ _ c.len.result c.len-2.result c.len.ensures c.len-2.ensures c.new.ensures
    (c.in_ok-vec.ensures.items_if_clones_equal (λ y e. e)) (c.in_ok-vec-2.ensures.items_if_clones_equal (λ y e. e))
