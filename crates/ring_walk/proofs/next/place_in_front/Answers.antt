use Rattle.std.proofs.Common.{◌-◌, arith}
use Rattle.ring_walk.proofs.Fronts.{front_before, front_last}
use Rattle.ring_walk.proofs.next.place_in_front.Goals as goal

pub returns-then-is_first_of_node-clause-front : goal.returns-then-is_first_of_node-clause-front
returns-then-is_first_of_node-clause-front c = λ d.
    let e = c.last_of_node.ensures in
    front_last c.args.spokes.now c.requires.ordered c.args.place d c.requires.inside c.last_of_node.result e.reached e.within
    (λ k l m. e.same k d l m) (e.ends d) (λ k f. c.is_first_of_node.ensures.first c.if-is_first_of_node.true k d f)

pub returns-else-is_first_of_node-clause-front : goal.returns-else-is_first_of_node-clause-front
returns-else-is_first_of_node-clause-front c = λ d.
    let later = c.is_first_of_node.ensures.later c.if-is_first_of_node.false in
    front_before c.args.spokes.now c.requires.ordered c.args.place d c.requires.inside (c.args.place - 1) (omega (arith, later)) (c.is_first_of_node.ensures.same c.if-is_first_of_node.false d)
