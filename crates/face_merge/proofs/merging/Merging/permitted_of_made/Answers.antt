-- It has those of the winner without the loser, and those that it gains.
use Rattle.std.proofs.Common.{◌≡◌, ◌∙◌, ap, arith, ◌+◌, List}
use Rattle.std.specs.Prelude.{count_by}
use Rattle.std.specs.Int.{from_bool}
use Rattle.face_merge.specs.declared.links.Link.{Link}
use Rattle.face_merge.specs.Merging.{after, is_gained, permitted_count}
use Rattle.face_merge.specs.Running.{number_in, state_of, step_of}
use Rattle.face_merge.proofs.Beside.{count_made, count_small, gained_small, winner_inside}
use Rattle.face_merge.proofs.merging.Merging.permitted_of_made.Goals.{After-count, After-from}
use Rattle.face_merge.proofs.merging.Merging.permitted_of_made.Goals as goal

pub count-requires : goal.count-requires
count-requires c = winner_inside c.args.self.now c.args.pair.now c.requires.running c.requires.next

gained_is : (c : After-count) → c.gained-gained.result
    ≡ count_by (λ link. is_gained (state_of c.args.self.now) (number_in c.args.self.now c.args.pair.now.winner) (number_in c.args.self.now link.slot)) c.args.pair.now.links.items
gained_is c =
    let r = c.args.self.now in
    c.gained-gained.ensures ∙ ap (λ (xs : List Link). count_by (λ link. is_gained (state_of r) (number_in r c.args.pair.now.winner) (number_in r link.slot)) xs) c.deref.ensures.value

pub overflow_add-result : goal.overflow_add-result
overflow_add-result c =
    omega (
      arith,
      count_small c.args.self.now c.args.pair.now.winner c.count.result c.requires.running c.count.ensures,
      gained_small c.args.self.now c.args.pair.now c.requires.running c.requires.next c.gained-gained.result (gained_is c),
    )

count_is : (c : After-from) → c.count.result + c.gained-gained.result
    ≡ permitted_count (after (step_of c.args.self.now c.args.pair.now) (state_of c.args.self.now)) (step_of c.args.self.now c.args.pair.now).made + c.from.result
count_is c =
    let r = c.args.self.now in
    count_made r c.args.pair.now c.requires.running c.requires.next c.count.result c.gained-gained.result c.from.result c.count.ensures
    (c.gained-gained.ensures ∙ ap (λ (xs : List Link). count_by (λ link. is_gained (state_of r) (number_in r c.args.pair.now.winner) (number_in r link.slot)) xs) c.deref.ensures.value)
    (c.from.ensures ∙ ap from_bool c.permits-lost.ensures)

pub overflow_sub-result : goal.overflow_sub-result
overflow_sub-result c = omega (arith, count_is c)

pub returns : goal.returns
returns c = omega (arith, count_is c)
