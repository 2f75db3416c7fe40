-- The two faces are live and differ, their sums fit, and what is held afterwards is the map after the step.
use Rattle.std.proofs.Common.{◌≡◌, ◌<◌, ◌∙◌, inl, inr, ap, sym, subst, refl, true, arith, ℕ, List, [], ◌∷◌, ◌++◌, set, ◌+ℤ◌, ◌+◌, length, to_z, of_z}
use Rattle.std.specs.Int.{w128}
use Rattle.std.specs.List.{All}
use Rattle.std.proofs.lemmas.List.Elements.{All-weaker}
use Rattle.tgap_model.specs.declared.base.Rules.{Rules}
use Rattle.tgap_model.specs.declared.merge.MergeStep.{MergeStep}
use Rattle.tgap_model.specs.Base.{is_rules}
use Rattle.tgap_model.proofs.BaseFacts.{base_facts}
use Rattle.face_merge.specs.declared.links.Link.{Link}
use Rattle.face_merge.specs.declared.queue.Place.{Place}
use Rattle.face_merge.specs.Links.{length_at}
use Rattle.face_merge.specs.Merging.{MergeState, after, after_steps}
use Rattle.face_merge.specs.Running.{AreInSlots, AreNeighboursAfter, IsLinkOf, IsNeighbourAfter, IsQueueOf, state_of, number_in, step_of}
use Rattle.face_merge.proofs.Steps.{same_step}
use Rattle.face_merge.proofs.Slots.{slots_paired}
use Rattle.face_merge.proofs.Held.{held, held_pair, importance_back, one_more_step, rules_are}
use Rattle.face_merge.proofs.Taken.{both_fit, ends_inside, many, new_importance, number_from, number_other, number_to, sum_is, sum_small, taken}
use Rattle.face_merge.proofs.Requeued.{faces_inside, place_inside, requeued, set_many}
use Rattle.face_merge.proofs.Best.{links_are}
use Rattle.face_merge.proofs.merging.Merging.take.Goals as goal

pub face-loser-requires-clause-live : goal.face-loser-requires-clause-live
face-loser-requires-clause-live c = (held_pair c.args.self c.args.pair c.requires.running c.requires.next).loser

pub face-winner-requires-clause-live : goal.face-winner-requires-clause-live
face-winner-requires-clause-live c = (held_pair c.args.self c.args.pair c.requires.running c.requires.next).winner

pub importance-importance-requires-clause-rules : goal.importance-importance-requires-clause-rules
importance-importance-requires-clause-rules c = subst (λ (x : Rules). is_rules x ≡ true) (sym c.rules.ensures.value) (base_facts c.args.self.base.now c.rules.ensures.base).rules

pub importance-importance-requires-clause-class : goal.importance-importance-requires-clause-class
importance-importance-requires-clause-class c =
    let rules = c.rules.ensures.value ∙ sym (rules_are c.args.self.base.now c.args.self.steps) in
    omega (arith, c.face-winner.ensures.below, ap (λ (r : Rules). length r.weights) rules)

pub importance-importance-requires-clause-area : goal.importance-importance-requires-clause-area
importance-importance-requires-clause-area c =
    let sum = sum_is c.args.self c.args.pair c.requires.running c.requires.next c.face-loser.result.area c.face-winner.result.area c.face-loser.ensures.area c.face-winner.ensures.area in
    sum_small c.args.self c.args.pair c.requires.running c.requires.next _ sum

pub join-requires-clause-winner : goal.join-requires-clause-winner
join-requires-clause-winner c = (held c.args.self c.args.pair.winner c.requires.running (held_pair c.args.self c.args.pair c.requires.running c.requires.next).winner).small_slot

pub join-requires-clause-apart : goal.join-requires-clause-apart
join-requires-clause-apart c = (held_pair c.args.self c.args.pair c.requires.running c.requires.next).apart

pub join-requires-clause-links : goal.join-requires-clause-links
join-requires-clause-links c = c.requires.next.links

pub join-requires-clause-paired : goal.join-requires-clause-paired
join-requires-clause-paired c = slots_paired _ _ _ _ c.requires.running.slots

pub join-requires-clause-fit : goal.join-requires-clause-fit
join-requires-clause-fit c = both_fit c.args.self c.args.pair c.requires.running c.requires.next c.args.pair.loser c.args.pair.winner (inl (refl, refl))

pub join-requires-clause-fit_back : goal.join-requires-clause-fit_back
join-requires-clause-fit_back c = both_fit c.args.self c.args.pair c.requires.running c.requires.next c.args.pair.winner c.args.pair.loser (inr (refl, refl))

pub neighbours_after-requires-clause-links : goal.neighbours_after-requires-clause-links
neighbours_after-requires-clause-links c =
    let r = c.args.self in
    subst (All (IsLinkOf r (number_in r c.args.pair.loser))) (sym c.deref.ensures.value) (links_are r c.requires.running c.args.pair.loser c.args.pair.links.items c.requires.next.links)

pub set-requires : goal.set-requires
set-requires c = (faces_inside c.args.self c.args.pair c.requires.running c.requires.next).0

pub set-requires-2 : goal.set-requires-2
set-requires-2 c =
    let inside = (faces_inside c.args.self c.args.pair c.requires.running c.requires.next).1 in
    omega (arith, inside, set_many c.args.self.queue c.set.new.self c.args.pair.loser 0 c.in_ok-set.ensures.counts)

pub set-requires-3 : goal.set-requires-3
set-requires-3 c =
    let inside = (ends_inside c.args.self c.args.pair c.requires.running c.requires.next c.in_ok-ends.ends c.in_ok-ends.ensures.ends).1 in
    let one = set_many c.args.self.queue c.set.new.self c.args.pair.loser 0 c.in_ok-set.ensures.counts in
    let two = set_many c.set.new.self c.set-2.new.self c.args.pair.winner 0 c.in_ok-set-2.ensures.counts in
    omega (arith, inside, one, two, c.requires.running.queue.slots)

pub set_all-requires : goal.set_all-requires
set_all-requires c =
    let r = c.args.self in
    let one = set_many r.queue c.set.new.self c.args.pair.loser 0 c.in_ok-set.ensures.counts in
    let two = set_many c.set.new.self c.set-2.new.self c.args.pair.winner 0 c.in_ok-set-2.ensures.counts in
    let three = set_many c.set-2.new.self c.set-3.new.self c.in_ok-ends.ends.to c.permitted_of_made-permitted.result c.in_ok-set-3.ensures.counts in
    subst (All (λ (place : Place). place.slot < length c.set-3.new.self.counts.items)) (sym c.deref-2.ensures.value)
    (All-weaker (IsNeighbourAfter r c.args.pair) (λ (place : Place). place.slot < length c.set-3.new.self.counts.items)
    (λ place is. omega (arith, place_inside r c.args.pair place c.requires.running is, one, two, three)) c.in_ok-neighbours.neighbours.items c.in_ok-neighbours.ensures.each)

pub index_mut-requires : goal.index_mut-requires
index_mut-requires c =
    let inside = (ends_inside c.args.self c.args.pair c.requires.running c.requires.next c.in_ok-ends.ends c.in_ok-ends.ensures.ends).0 in
    omega (arith, inside, c.args.self.numbers.ok.0)

pub index_mut-requires-2 : goal.index_mut-requires-2
index_mut-requires-2 c =
    let inside = (ends_inside c.args.self c.args.pair c.requires.running c.requires.next c.in_ok-ends.ends c.in_ok-ends.ensures.ends).1 in
    omega (arith, inside, c.args.self.numbers.ok.0)

pub index_mut-requires-3 : goal.index_mut-requires-3
index_mut-requires-3 c =
    let inside = (ends_inside c.args.self c.args.pair c.requires.running c.requires.next c.in_ok-ends.ends c.in_ok-ends.ensures.ends).2 in
    omega (arith, inside, c.args.self.areas.ok.0)

pub returns-clause-running : goal.returns-clause-running
returns-clause-running c =
    let r = c.args.self in
    let pair = c.args.pair in
    let running = c.requires.running in
    let next = c.requires.next in
    let s = step_of r pair in
    let ends = c.in_ok-ends.ends in
    let inside = ends_inside r pair running next ends c.in_ok-ends.ensures.ends in
    let count : c.len.result + 1 ≡ length (state_of r).classes + 1 = omega (arith, c.len.ensures, r.classes.ok.0, ap length running.classes) in
    let sum = sum_is r pair running next c.face-loser.result.area c.face-winner.result.area c.face-loser.ensures.area c.face-winner.ensures.area in
    let told : MergeStep = record { loser = c.face-loser.result.number; winner = c.face-winner.result.number; made = c.len.result + 1 } in
    let step_is : told ≡ s = same_step told s c.face-loser.ensures.number c.face-winner.ensures.number count in
    let pushed : c.push-2.new.self ≡ r.steps ++ told ∷ [] = c.in_ok-push-2.ensures in
    let state : after_steps r.base.now c.push-2.new.self ≡ after s (state_of r) =
    ap (after_steps r.base.now) pushed ∙ (ap (λ (x : MergeStep). after_steps r.base.now (r.steps ++ x ∷ [])) step_is ∙ one_more_step r.base.now r.steps s) in
    let class = c.in_ok-push.ensures.items ∙ (ap (λ (ks : List ℕ). ks ++ c.face-winner.result.class ∷ []) running.classes ∙ ap (λ (k : ℕ). (state_of r).classes ++ k ∷ []) c.face-winner.ensures.class) in
    let numbers = set (set r.numbers.items ends.from 0) ends.to (c.len.result + 1) in
    let areas = set r.areas.items ends.to (to_z w128 (of_z w128 (to_z w128 (of_z w128 c.face-loser.result.area) +ℤ to_z w128 (of_z w128 c.face-winner.result.area)))) in
    let area = to_z w128 (of_z w128 (to_z w128 (of_z w128 c.face-loser.result.area) +ℤ to_z w128 (of_z w128 c.face-winner.result.area))) in
    let numbers_are = ap (set (set r.numbers.items ends.from 0) ends.to) count in
    let slots = taken r pair running next ends c.in_ok-ends.ensures.ends numbers areas (length_at c.join.new.links) area numbers_are refl sum c.in_ok-ends.ensures.joined inside.0 inside.1 inside.2 in
    let at_from = number_from r pair running next ends c.in_ok-ends.ensures.ends numbers areas (length_at c.join.new.links) area numbers_are refl sum c.in_ok-ends.ensures.joined inside.0 inside.1 inside.2 in
    let at_to = number_to r pair running next ends c.in_ok-ends.ensures.ends numbers areas (length_at c.join.new.links) area numbers_are refl sum c.in_ok-ends.ensures.joined inside.0 inside.1 inside.2 in
    let at_other = number_other r pair running next ends c.in_ok-ends.ensures.ends numbers areas (length_at c.join.new.links) area numbers_are refl sum c.in_ok-ends.ensures.joined inside.0 inside.1 inside.2 in
    let as_many = many r pair running next ends c.in_ok-ends.ensures.ends numbers areas (length_at c.join.new.links) area numbers_are refl sum c.in_ok-ends.ensures.joined inside.0 inside.1 inside.2 in
    let listed = subst (λ (ls : List Link). AreNeighboursAfter r pair ls c.in_ok-neighbours.neighbours.items) c.deref.ensures.value c.in_ok-neighbours.ensures in
    let places = c.deref-2.result.now in
    let beside = subst (AreNeighboursAfter r pair pair.links.items) (sym c.deref-2.ensures.value) listed in
    let queue = requeued r pair running next ends.from ends.to c.in_ok-ends.ensures.ends numbers as_many at_from at_to at_other places beside
    c.set.new.self c.set-2.new.self c.set-3.new.self c.set_all.new.self
    (to_z w128 (of_z w128 c.face-loser.result.importance)) (to_z w128 (of_z w128 c.face-winner.result.importance)) (to_z w128 (of_z w128 c.importance-importance.result))
    c.face-loser.result.number c.face-winner.result.number (c.len.result + 1) c.permitted_of_made-permitted.result
    (importance_back (state_of r) (number_in r pair.loser) c.face-loser.result.importance running.slots.known c.face-loser.ensures.importance)
    (importance_back (state_of r) (number_in r pair.winner) c.face-winner.result.importance running.slots.known c.face-winner.ensures.importance)
    (new_importance r pair running next _ c.face-winner.result.class c.rules.result.now c.rules.ensures.value sum c.face-winner.ensures.class c.importance-importance.result c.importance-importance.ensures)
    c.face-loser.ensures.number c.face-winner.ensures.number count c.permitted_of_made-permitted.ensures
    c.in_ok-set.ensures.waits c.in_ok-set.ensures.counts c.in_ok-set-2.ensures.waits c.in_ok-set-2.ensures.counts c.in_ok-set-3.ensures.waits c.in_ok-set-3.ensures.counts
    c.in_ok-set_all.ensures.waiting c.in_ok-set_all.ensures.counts c.in_ok-set_all.ensures.slots in
    record {
      classes = class ∙ sym (ap (λ (m : MergeState). m.classes) state);
      slots = subst (λ (m : MergeState). AreInSlots m numbers areas (length_at c.join.new.links)) (sym state) slots;
      queue = subst (λ (m : MergeState). IsQueueOf m numbers c.set_all.new.self) (sym state) queue;
    }
