-- With more room, and with the loser's keys listed for the winner too, the forest is at rest as before; it is settled, and joined in
-- turn.
use Rattle.std.proofs.Common.{◌≡◌, ◌↔◌, ◌-◌, ℕ, List, length, get_or, Contains, refl, sym, ap, ◌∙◌, subst, arith}
use Rattle.edge_forest.specs.declared.growth.Growth.{Growth}
use Rattle.edge_forest.specs.Continued.{AreJoined}
use Rattle.edge_forest.specs.Growth.{IsJoinedInTurn}
use Rattle.edge_forest.proofs.Settled.{step_small, sides_known, sides_differ, sides_listed}
use Rattle.edge_forest.proofs.Continued.{all_as_before, continued_twice}
use Rattle.edge_forest.proofs.Few.{settled_few}
use Rattle.edge_forest.proofs.InTurn.{turn_same}
use Rattle.edge_forest.proofs.Steps.{joints_within, more_listed, winner_lists, loser_lists, ending_counted, rest_listed, few_listed, step_made}
use Rattle.edge_forest.proofs.step.make_step.Goals as goal

pub sides-sides-requires-clause-loser : goal.sides-sides-requires-clause-loser
sides-sides-requires-clause-loser c = (sides_known c.args.growth.now c.args.low c.args.step.now c.requires.step.0 c.requires.step.1 c.requires.next c.requires.rest).0.face

pub sides-sides-requires-clause-winner : goal.sides-sides-requires-clause-winner
sides-sides-requires-clause-winner c = (sides_known c.args.growth.now c.args.low c.args.step.now c.requires.step.0 c.requires.step.1 c.requires.next c.requires.rest).1.face

pub keys_with-requires : goal.keys_with-requires
keys_with-requires c = rw c.sides-sides.ensures (sides_listed c.args.growth.now c.args.low c.args.step.now c.requires.step.0 c.requires.step.1 c.requires.next c.requires.rest).0

pub list_keys-requires : goal.list_keys-requires
list_keys-requires c = rw c.sides-sides.ensures (sides_listed c.args.growth.now c.args.low c.args.step.now c.requires.step.0 c.requires.step.1 c.requires.next c.requires.rest).1

pub settle-requires-clause-rest : goal.settle-requires-clause-rest
settle-requires-clause-rest c =
    let roomy : Growth = record c.args.growth.now { edges = c.reserve.new.self; keys = c.list_keys.new.lists } in
    let more = more_listed c.args.growth.now roomy c.args.step.now c.sides-sides.result c.as_slice-2.result.now c.sides-sides.ensures (sides_listed c.args.growth.now c.args.low c.args.step.now c.requires.step.0 c.requires.step.1 c.requires.next c.requires.rest).1 c.in_ok-list_keys.ensures.ok
    refl refl refl refl c.reserve.ensures.items in
    rest_listed (c.args.low - 1) c.args.growth.now roomy c.requires.rest more

pub settle-requires-clause-keys : goal.settle-requires-clause-keys
settle-requires-clause-keys c =
    let roomy : Growth = record c.args.growth.now { edges = c.reserve.new.self; keys = c.list_keys.new.lists } in
    c.as_slice-3.ensures ∙ sym c.as_slice-2.ensures
    ∙ loser_lists c.args.growth.now roomy c.args.step.now c.sides-sides.result c.as_slice-2.result.now c.sides-sides.ensures (sides_listed c.args.growth.now c.args.low c.args.step.now c.requires.step.0 c.requires.step.1 c.requires.next c.requires.rest).1 c.in_ok-list_keys.ensures.ok
    (sides_differ c.args.growth.now c.args.low c.args.step.now c.requires.step.0 c.requires.step.1 c.requires.next c.requires.rest) refl (c.as_slice-2.ensures ∙ c.in_ok-keys.ensures)

pub settle-requires-clause-listed : goal.settle-requires-clause-listed
settle-requires-clause-listed c = λ i there.
    let roomy : Growth = record c.args.growth.now { edges = c.reserve.new.self; keys = c.list_keys.new.lists } in
    winner_lists c.args.growth.now roomy c.args.step.now c.sides-sides.result c.as_slice-2.result.now c.sides-sides.ensures (sides_listed c.args.growth.now c.args.low c.args.step.now c.requires.step.0 c.requires.step.1 c.requires.next c.requires.rest).1 c.in_ok-list_keys.ensures.ok
    i (subst (λ (ks : List ℕ). Contains ks i) (c.as_slice-3.ensures ∙ sym c.as_slice-2.ensures) there)

pub settle-requires-clause-room : goal.settle-requires-clause-room
settle-requires-clause-room c =
    let ending = ending_counted c.args.growth.now.labels c.args.step.now c.sides-sides.result c.args.growth.now.net.rows.items c.as_slice.result.now c.as_slice-3.result.now
    c.count_ending-ending.result c.sides-sides.ensures (c.as_slice.ensures ∙ sym c.as_slice-3.ensures) c.count_ending-ending.ensures in
    (c.in_ok-touched.ensures.items, omega (arith, c.in_ok-touched.ensures.capacity, ending))

pub join_all-requires-clause-low : goal.join_all-requires-clause-low
join_all-requires-clause-low c = step_small c.args.growth.now c.args.low c.args.step.now c.requires.step.0 c.requires.step.1 c.requires.next c.requires.rest

pub join_all-requires-clause-nodes : goal.join_all-requires-clause-nodes
join_all-requires-clause-nodes c =
    let roomy : Growth = record c.args.growth.now { edges = c.reserve.new.self; keys = c.list_keys.new.lists } in
    let more = more_listed c.args.growth.now roomy c.args.step.now c.sides-sides.result c.as_slice-2.result.now c.sides-sides.ensures (sides_listed c.args.growth.now c.args.low c.args.step.now c.requires.step.0 c.requires.step.1 c.requires.next c.requires.rest).1 c.in_ok-list_keys.ensures.ok
    refl refl refl refl c.reserve.ensures.items in
    let rest = rest_listed (c.args.low - 1) c.args.growth.now roomy c.requires.rest more in
    let members = subst (λ (counts : List ℕ). (n : ℕ) → Contains c.joints_of-joints.result.items n ↔ (Contains c.settle.new.touched.items n × (get_or counts n 0 ≡ 2)))
    c.as_slice-4.ensures.value c.joints_of-joints.ensures.members in
    rw c.as_slice-5.ensures.value
    (joints_within (c.args.low - 1) roomy c.settle.new.growth c.args.step.now c.settle.new.touched.items c.joints_of-joints.result.items rest c.settle.ensures.settled members)

pub join_all-requires-clause-rooms : goal.join_all-requires-clause-rooms
join_all-requires-clause-rooms c =
    let ending = ending_counted c.args.growth.now.labels c.args.step.now c.sides-sides.result c.args.growth.now.net.rows.items c.as_slice.result.now c.as_slice-3.result.now
    c.count_ending-ending.result c.sides-sides.ensures (c.as_slice.ensures ∙ sym c.as_slice-3.ensures) c.count_ending-ending.ensures in
    omega (arith, c.in_ok-rooms.ensures.count, ending, c.settle.ensures.count, c.joints_of-joints.ensures.count, ap length c.as_slice-5.ensures.value)

pub join_all-requires-clause-edges : goal.join_all-requires-clause-edges
join_all-requires-clause-edges c =
    let ending = ending_counted c.args.growth.now.labels c.args.step.now c.sides-sides.result c.args.growth.now.net.rows.items c.as_slice.result.now c.as_slice-3.result.now
    c.count_ending-ending.result c.sides-sides.ensures (c.as_slice.ensures ∙ sym c.as_slice-3.ensures) c.count_ending-ending.ensures in
    omega (
      arith,
      c.in_ok-reserve.ensures.ok,
      c.settle.ensures.edges_count,
      c.settle.ensures.edges_capacity,
      ending,
      c.settle.ensures.count,
      c.joints_of-joints.ensures.count,
      ap length c.as_slice-5.ensures.value,
    )

pub join_all-requires-clause-few : goal.join_all-requires-clause-few
join_all-requires-clause-few c =
    let roomy : Growth = record c.args.growth.now { edges = c.reserve.new.self; keys = c.list_keys.new.lists } in
    let more = more_listed c.args.growth.now roomy c.args.step.now c.sides-sides.result c.as_slice-2.result.now c.sides-sides.ensures (sides_listed c.args.growth.now c.args.low c.args.step.now c.requires.step.0 c.requires.step.1 c.requires.next c.requires.rest).1 c.in_ok-list_keys.ensures.ok
    refl refl refl refl c.reserve.ensures.items in
    settled_few c.args.step.now roomy c.settle.new.growth c.settle.new.touched.items c.settle.ensures.settled (few_listed c.args.growth.now roomy c.requires.few more)

pub returns-clause-rest : goal.returns-clause-rest
returns-clause-rest c =
    let roomy : Growth = record c.args.growth.now { edges = c.reserve.new.self; keys = c.list_keys.new.lists } in
    let more = more_listed c.args.growth.now roomy c.args.step.now c.sides-sides.result c.as_slice-2.result.now c.sides-sides.ensures (sides_listed c.args.growth.now c.args.low c.args.step.now c.requires.step.0 c.requires.step.1 c.requires.next c.requires.rest).1 c.in_ok-list_keys.ensures.ok
    refl refl refl refl c.reserve.ensures.items in
    let rest = rest_listed (c.args.low - 1) c.args.growth.now roomy c.requires.rest more in
    let members = subst (λ (counts : List ℕ). (n : ℕ) → Contains c.joints_of-joints.result.items n ↔ (Contains c.settle.new.touched.items n × (get_or counts n 0 ≡ 2)))
    c.as_slice-4.ensures.value c.joints_of-joints.ensures.members in
    let turn = subst (λ (ns : List ℕ). IsJoinedInTurn c.args.low c.settle.new.growth ns c.join_all.new.growth) c.as_slice-5.ensures.value c.join_all.ensures.joined in
    step_made c.args.low roomy c.settle.new.growth c.join_all.new.growth c.args.step.now c.settle.new.touched.items c.joints_of-joints.result.items
    c.requires.step.0 c.requires.step.1 c.requires.next rest c.settle.ensures.settled c.settle.ensures.stored c.joints_of-joints.ensures.ascend members turn
    c.join_all.ensures.stored (step_small c.args.growth.now c.args.low c.args.step.now c.requires.step.0 c.requires.step.1 c.requires.next c.requires.rest)

pub returns-clause-base : goal.returns-clause-base
returns-clause-base c = (turn_same c.args.low c.settle.new.growth c.join_all.new.growth _ c.join_all.ensures.joined).0 ∙ c.settle.ensures.settled.base

pub returns-clause-continued : goal.returns-clause-continued
returns-clause-continued c =
    continued_twice _ _ _ (all_as_before c.args.growth.now.edges.items _ c.reserve.ensures.items)
    (continued_twice _ _ _ c.settle.ensures.continued c.join_all.ensures.continued)

pub returns-clause-parts : goal.returns-clause-parts
returns-clause-parts c =
    let count : length c.settle.new.growth.edges.items ≡ length c.args.growth.now.edges.items
    = omega (arith, c.settle.new.growth.edges.ok.0, c.settle.ensures.edges_count, c.reserve.new.self.ok.0, ap length c.reserve.ensures.items) in
    subst (λ (n : ℕ). AreJoined c.args.low n c.join_all.new.growth.edges.items) count c.join_all.ensures.parts
