use Rattle.std.proofs.Common.{◌≡◌, ℕ, List, set, subst, arith}
use Rattle.arc_places.specs.Bodies.{exchanged, image}
use Rattle.arc_places.proofs.Images.{are_exchanged, one_within}
use Rattle.arc_places.proofs.bodies.Bodies.exchange.Goals as goal

pub index-one-requires : goal.index-one-requires
index-one-requires c = (let long = c.in_ok-reach-2.ensures.long in let len = c.reach-2.new.numbers.ok.0 in omega (arith, c.max-last.ensures, long, len))

pub index-other-requires : goal.index-other-requires
index-other-requires c = (let long = c.in_ok-reach-2.ensures.long in let len = c.reach-2.new.numbers.ok.0 in omega (arith, c.max-last.ensures, long, len))

pub index_mut-requires : goal.index_mut-requires
index_mut-requires c = (let long = c.in_ok-reach-2.ensures.long in let len = c.reach-2.new.numbers.ok.0 in omega (arith, c.max-last.ensures, long, len))

pub index_mut-requires-2 : goal.index_mut-requires-2
index_mut-requires-2 c = (let long = c.in_ok-reach-2.ensures.long in let len = c.reach-2.new.numbers.ok.0 in omega (arith, c.max-last.ensures, long, len))

pub index_mut-requires-3 : goal.index_mut-requires-3
index_mut-requires-3 c =
    let max = c.max-last.ensures in
    let slots_long = c.in_ok-reach.ensures.long in
    let bodies_long = c.in_ok-reach-2.ensures.long in
    let len = c.reach.new.numbers.ok.0 in
    let within = one_within c.self.inside.slots.items c.self.inside.bodies.items c.reach.new.numbers.items c.reach-2.new.numbers.items c.args.second c.index-other.result.now c.self.invariant
    c.in_ok-reach.ensures.same c.in_ok-reach-2.ensures.same (omega (arith, max, bodies_long)) (omega (arith, max, slots_long)) c.index-other.ensures in
    omega (arith, within, len)

pub index_mut-requires-4 : goal.index_mut-requires-4
index_mut-requires-4 c =
    let max = c.max-last.ensures in
    let slots_long = c.in_ok-reach.ensures.long in
    let bodies_long = c.in_ok-reach-2.ensures.long in
    let len = c.reach.new.numbers.ok.0 in
    let within = one_within c.self.inside.slots.items c.self.inside.bodies.items c.reach.new.numbers.items c.reach-2.new.numbers.items c.args.first c.index-one.result.now c.self.invariant
    c.in_ok-reach.ensures.same c.in_ok-reach-2.ensures.same (omega (arith, max, bodies_long)) (omega (arith, max, slots_long)) c.index-one.ensures in
    omega (arith, within, len)

pub invariant_of-self-2 : goal.invariant_of-self-2
invariant_of-self-2 c =
    let max = c.max-last.ensures in
    let slots_long = c.in_ok-reach.ensures.long in
    let bodies_long = c.in_ok-reach-2.ensures.long in
    (are_exchanged c.self.inside.slots.items c.self.inside.bodies.items c.reach.new.numbers.items c.reach-2.new.numbers.items c.args.first c.args.second c.index-one.result.now
    c.index-other.result.now c.self.invariant c.in_ok-reach.ensures.same c.in_ok-reach-2.ensures.same (omega (arith, max, bodies_long)) (omega (arith, max, bodies_long))
    (omega (arith, max, slots_long)) (omega (arith, max, slots_long)) c.index-one.ensures c.index-other.ensures).inverse

pub returns : goal.returns
returns c =
    let max = c.max-last.ensures in
    let slots_long = c.in_ok-reach.ensures.long in
    let bodies_long = c.in_ok-reach-2.ensures.long in
    subst (λ (slots : List ℕ). (b : ℕ) → image (set (set c.reach.new.numbers.items c.index-other.result.now c.args.first) c.index-one.result.now c.args.second) b ≡ exchanged c.args.first c.args.second (image slots b))
    c.self.view_is
    (are_exchanged c.self.inside.slots.items c.self.inside.bodies.items c.reach.new.numbers.items c.reach-2.new.numbers.items c.args.first c.args.second c.index-one.result.now
    c.index-other.result.now c.self.invariant c.in_ok-reach.ensures.same c.in_ok-reach-2.ensures.same (omega (arith, max, bodies_long)) (omega (arith, max, bodies_long))
    (omega (arith, max, slots_long)) (omega (arith, max, slots_long)) c.index-one.ensures c.index-other.ensures).images
