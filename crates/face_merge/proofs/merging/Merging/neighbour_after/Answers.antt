-- It has one permitted neighbour less where it permits the loser, and one more where it permits the winner and has no arc with it.
use Rattle.std.proofs.Common.{◌≡◌, ◌∙◌, ◌&&◌, not, ap, ap₂, sym, arith, ◌+◌}
use Rattle.std.specs.Int.{from_bool}
use Rattle.face_merge.specs.Merging.{after, importance_of, permitted_count}
use Rattle.face_merge.specs.Running.{number_in, state_of, step_of}
use Rattle.face_merge.proofs.Below.{bool_small}
use Rattle.face_merge.proofs.Beside.{count_beside, count_small}
use Rattle.face_merge.proofs.Held.{importance_back}
use Rattle.face_merge.proofs.Linking.{link_length}
use Rattle.face_merge.proofs.merging.Merging.neighbour_after.Goals.{After-from-2}
use Rattle.face_merge.proofs.merging.Merging.neighbour_after.Goals as goal

count_is : (c : After-from-2) → c.count-count.result + c.from.result
    ≡ permitted_count (after (step_of c.args.self.now c.args.pair.now) (state_of c.args.self.now)) (number_in c.args.self.now c.args.link.slot) + c.from-2.result
count_is c =
    count_beside c.args.self.now c.args.pair.now c.requires.running c.requires.next c.args.link c.requires.link c.requires.other c.count-count.result c.from.result c.from-2.result
    c.count-count.ensures (c.from.ensures ∙ ap from_bool (c.is_new-gained.ensures ∙ ap₂ (λ a b. not a && b) c.near-near.ensures c.permits-permitted.ensures))
    (c.from-2.ensures ∙ ap from_bool c.permits-lost.ensures)

pub overflow_add-result : goal.overflow_add-result
overflow_add-result c =
    omega (arith, count_small c.args.self.now c.args.link.slot c.count-count.result c.requires.running c.count-count.ensures, c.from.ensures, bool_small c.is_new-gained.result)

pub overflow_sub-result : goal.overflow_sub-result
overflow_sub-result c = omega (arith, count_is c)

pub returns-clause-neighbour : goal.returns-clause-neighbour
returns-clause-neighbour c =
    let r = c.args.self.now in
    let count =
    count_beside r c.args.pair.now c.requires.running c.requires.next c.args.link c.requires.link c.requires.other c.count-count.result c.from.result c.from-2.result
    c.count-count.ensures (c.from.ensures ∙ ap from_bool (c.is_new-gained.ensures ∙ ap₂ (λ a b. not a && b) c.near-near.ensures c.permits-permitted.ensures))
    (c.from-2.ensures ∙ ap from_bool c.permits-lost.ensures) in
    record {
      number = c.face-face.ensures.number;
      importance = importance_back (state_of r) (number_in r c.args.link.slot) c.face-face.result.importance c.requires.running.slots.known c.face-face.ensures.importance
          ∙ ap (importance_of (state_of r)) (sym c.face-face.ensures.number);
      near = rw c.face-face.ensures.number (link_length (state_of r).arcs (number_in r c.args.pair.now.loser) (number_in r c.args.link.slot) c.args.link.length c.requires.link).0;
      other = c.requires.other;
      permitted = omega (arith, count, ap (permitted_count (after (step_of r c.args.pair.now) (state_of r))) c.face-face.ensures.number);
    }
