-- The queue after a step: the loser and the winner wait no longer, the new face waits where it has a permitted neighbour, and
-- so does each neighbour of the loser.
use Rattle.std.proofs.Common.{◌≡◌, ◌≢◌, ◌<◌, ◌⊎◌, inl, inr, ℕ, Bool, true, false, ◌||◌, ◌==◌, ℤ, nat_lt, List, [], ◌∷◌, length, get_or, set, cond, refl, sym, ◌∙◌, ap, subst, arith, ne_eqb, get_or-set_same, get_or-set_other, length-set}
use Rattle.std.specs.Ordering.{is_eq}
use Rattle.std.specs.List.{All, AllByRecursion}
use Rattle.std.proofs.lemmas.Bool.{cases_eq, cond-true, cond-false, both_ways}
use Rattle.std.proofs.lemmas.Option.{slice_get_within, get_or_from_slice_get}
use Rattle.std.proofs.lemmas.List.Elements.{All-weaker, recursion_from_All}
use Rattle.tgap_model.specs.declared.merge.MergeStep.{MergeStep}
use Rattle.tgap_model.specs.History.{are_neighbours, shared_length}
use Rattle.face_merge.specs.declared.links.Link.{Link}
use Rattle.face_merge.specs.declared.merging.Merging.{Merging}
use Rattle.face_merge.specs.declared.merging.Pair.{Pair}
use Rattle.face_merge.specs.declared.queue.Place.{Place}
use Rattle.face_merge.specs.declared.queue.Queue.{Queue}
use Rattle.face_merge.specs.Merging.{MergeState, after, importance_of, permitted_count}
use Rattle.face_merge.specs.Queue.{waits, count_at, place_cmp, lists, AreWaiting}
use Rattle.face_merge.specs.Running.{AreNeighboursAfter, IsNeighbourAfter, IsNextPair, IsQueueOf, IsRunning, number_at, number_in, state_of, step_of}
use Rattle.face_merge.proofs.Linking.{link_some}
use Rattle.face_merge.proofs.Slots.{importance_kept, other_face, turned_near, zero_near}
use Rattle.face_merge.proofs.Permitted.{kept_apart, none_of_zero, near_itself}
use Rattle.face_merge.proofs.Queued.{waiting_same, waiting_set}
use Rattle.face_merge.proofs.Held.{HeldPair, held, held_pair}

-- no place of these is in the slot
none_listed : (s : ℕ) (places : List Place) → AllByRecursion (λ place. place.slot ≢ s) places → lists places s ≡ false
none_listed s [] apart = refl
none_listed s (x ∷ places) apart = both (x.slot == s) (lists places s) (ne_eqb x.slot s apart.0) (none_listed s places apart.1)
  where
    both : (a b : Bool) → a ≡ false → b ≡ false → (a || b) ≡ false
    both a b p q = rw (p, q) refl

-- the slot of a neighbour of the loser has a face, and so has that of the loser and that of the winner
pub place_live : (r : Merging) (pair : Pair) (place : Place) → IsNeighbourAfter r pair place → number_in r place.slot ≢ 0
place_live r pair place is z =
    zero_near (state_of r).arcs (number_in r pair.loser)
    (turned_near (state_of r).arcs (number_in r pair.loser) 0 (subst (λ (f : ℕ). are_neighbours (state_of r).arcs (number_in r pair.loser) f ≡ true) (is.number ∙ z) is.near))

pub place_inside : (r : Merging) (pair : Pair) (place : Place) → IsRunning r → IsNeighbourAfter r pair place → place.slot < length r.queue.counts.items
place_inside r pair place running is = omega (arith, (held r place.slot running (place_live r pair place is)).inside, running.queue.slots)

pub faces_inside : (r : Merging) (pair : Pair) → IsRunning r → IsNextPair r pair → (pair.loser < length r.queue.counts.items) × (pair.winner < length r.queue.counts.items)
faces_inside r pair running next =
    let step = held_pair r pair running next in (
      omega (arith, (held r pair.loser running step.loser).inside, running.queue.slots),
      omega (arith, (held r pair.winner running step.winner).inside, running.queue.slots),
    )

-- the counts with one of them set
set_here : (q q' : Queue) (s k : ℕ) → s < length q.counts.items → q'.counts.items ≡ set q.counts.items s k → count_at q' s ≡ k
set_here q q' s k inside e = ap (λ (xs : List ℕ). get_or xs s 0) e ∙ get_or-set_same q.counts.items s k 0 inside

set_other : (q q' : Queue) (s k : ℕ) → q'.counts.items ≡ set q.counts.items s k → (t : ℕ) → t ≢ s → count_at q' t ≡ count_at q t
set_other q q' s k e t d = ap (λ (xs : List ℕ). get_or xs t 0) e ∙ get_or-set_other q.counts.items s t k 0 d

pub set_many : (q q' : Queue) (s k : ℕ) → q'.counts.items ≡ set q.counts.items s k → length q'.counts.items ≡ length q.counts.items
set_many q q' s k e = ap length e ∙ length-set q.counts.items s k

module _ (r : Merging) (pair : Pair) (running : IsRunning r) (next : IsNextPair r pair) (from to : ℕ)
    (are : ((from ≡ pair.loser) × (to ≡ pair.winner)) ⊎ ((from ≡ pair.winner) × (to ≡ pair.loser))) (numbers' : List ℕ)
    (as_many : length numbers' ≡ length r.numbers.items) (at_from : number_at numbers' from ≡ 0) (at_to : number_at numbers' to ≡ (step_of r pair).made)
    (at_other : (t : ℕ) → t ≢ from → t ≢ to → number_at numbers' t ≡ number_in r t) (places : List Place) (beside : AreNeighboursAfter r pair pair.links.items places)
    (q1 q2 q3 q4 : Queue) (imp_loser imp_winner imp : ℤ) (loser winner made permitted : ℕ)
    (il : imp_loser ≡ importance_of (state_of r) (number_in r pair.loser)) (iw : imp_winner ≡ importance_of (state_of r) (number_in r pair.winner))
    (im : imp ≡ importance_of (after (step_of r pair) (state_of r)) (step_of r pair).made)
    (el : loser ≡ number_in r pair.loser) (ew : winner ≡ number_in r pair.winner) (em : made ≡ (step_of r pair).made)
    (ep : permitted ≡ permitted_count (after (step_of r pair) (state_of r)) (step_of r pair).made)
    (u1 : (j : ℤ) (g t : ℕ) → waits q1 j g t ≡ cond (is_eq (place_cmp (imp_loser, loser, pair.loser) (j, g, t))) (nat_lt 0 0) (waits r.queue j g t))
    (c1 : q1.counts.items ≡ set r.queue.counts.items pair.loser 0)
    (u2 : (j : ℤ) (g t : ℕ) → waits q2 j g t ≡ cond (is_eq (place_cmp (imp_winner, winner, pair.winner) (j, g, t))) (nat_lt 0 0) (waits q1 j g t))
    (c2 : q2.counts.items ≡ set q1.counts.items pair.winner 0)
    (u3 : (j : ℤ) (g t : ℕ) → waits q3 j g t ≡ cond (is_eq (place_cmp (imp, made, to) (j, g, t))) (nat_lt 0 permitted) (waits q2 j g t))
    (c3 : q3.counts.items ≡ set q2.counts.items to permitted)
    (waiting : (number : ℕ → ℕ) (importance : ℕ → ℤ) → All (λ place. (place.number ≡ number place.slot) × (place.importance ≡ importance place.number)) places
    → AreWaiting number importance (waits q3) (count_at q3) → AreWaiting number importance (waits q4) (count_at q4))
    (counts : (count : ℕ → ℕ) → All (λ place. place.permitted ≡ count place.slot) places → (s : ℕ) → count_at q4 s ≡ cond (lists places s) (count s) (count_at q3 s))
    (slots : length q4.counts.items ≡ length q3.counts.items)
  where
    abbrev m : MergeState
    m = state_of r

    abbrev s : MergeStep
    s = step_of r pair

    step : HeldPair r pair
    step = held_pair r pair running next

    -- ---- the slots

    theirs : ((number_in r from ≡ number_in r pair.loser) × (number_in r to ≡ number_in r pair.winner)) ⊎ ((number_in r from ≡ number_in r pair.winner) × (number_in r to ≡ number_in r pair.loser))
    theirs = chosen are
      where
        chosen : ((from ≡ pair.loser) × (to ≡ pair.winner)) ⊎ ((from ≡ pair.winner) × (to ≡ pair.loser))
            → ((number_in r from ≡ number_in r pair.loser) × (number_in r to ≡ number_in r pair.winner)) ⊎ ((number_in r from ≡ number_in r pair.winner) × (number_in r to ≡ number_in r pair.loser))
        chosen (inl h) = inl (ap (number_in r) h.0, ap (number_in r) h.1)
        chosen (inr h) = inr (ap (number_in r) h.0, ap (number_in r) h.1)

    no_end : (t : ℕ) → t ≢ pair.loser → t ≢ pair.winner → (t ≢ from) × (t ≢ to)
    no_end t a b = chosen are
      where
        chosen : ((from ≡ pair.loser) × (to ≡ pair.winner)) ⊎ ((from ≡ pair.winner) × (to ≡ pair.loser)) → (t ≢ from) × (t ≢ to)
        chosen (inl h) = ((λ e. a (e ∙ h.0)), (λ e. b (e ∙ h.1)))
        chosen (inr h) = ((λ e. b (e ∙ h.0)), (λ e. a (e ∙ h.1)))

    no_face : (t : ℕ) → t ≢ from → t ≢ to → (t ≢ pair.loser) × (t ≢ pair.winner)
    no_face t a b = chosen are
      where
        chosen : ((from ≡ pair.loser) × (to ≡ pair.winner)) ⊎ ((from ≡ pair.winner) × (to ≡ pair.loser)) → (t ≢ pair.loser) × (t ≢ pair.winner)
        chosen (inl h) = ((λ e. a (e ∙ sym h.0)), (λ e. b (e ∙ sym h.1)))
        chosen (inr h) = ((λ e. b (e ∙ sym h.1)), (λ e. a (e ∙ sym h.0)))

    by_ends : (P : ℕ → Type 0) → P pair.loser → P pair.winner → P from × P to
    by_ends P p q = chosen are
      where
        chosen : ((from ≡ pair.loser) × (to ≡ pair.winner)) ⊎ ((from ≡ pair.winner) × (to ≡ pair.loser)) → P from × P to
        chosen (inl h) = (subst P (sym h.0) p, subst P (sym h.1) q)
        chosen (inr h) = (subst P (sym h.0) q, subst P (sym h.1) p)

    ends_apart : from ≢ to
    ends_apart e = chosen are
      where
        chosen : ((from ≡ pair.loser) × (to ≡ pair.winner)) ⊎ ((from ≡ pair.winner) × (to ≡ pair.loser)) → ⊥
        chosen (inl h) = step.apart (sym h.0 ∙ (e ∙ h.1))
        chosen (inr h) = step.apart (sym (sym h.0 ∙ (e ∙ h.1)))

    inside : (pair.loser < length r.queue.counts.items) × (pair.winner < length r.queue.counts.items)
    inside = faces_inside r pair running next

    to_inside : to < length q2.counts.items
    to_inside = omega (arith, (by_ends (λ t. t < length r.queue.counts.items) inside.0 inside.1).1, set_many r.queue q1 pair.loser 0 c1, set_many q1 q2 pair.winner 0 c2)

    -- ---- without the two faces

    first : AreWaiting (number_at r.numbers.items) (importance_of (state_of r)) (waits q1) (count_at q1)
    first =
        waiting_set (number_at r.numbers.items) (importance_of (state_of r)) (waits r.queue) (count_at r.queue) running.queue.faces (waits q1) (count_at q1) imp_loser loser pair.loser 0 (il ∙ ap (importance_of (state_of r)) (sym el)) el u1
        (set_here r.queue q1 pair.loser 0 inside.0 c1) (set_other r.queue q1 pair.loser 0 c1)

    second : AreWaiting (number_at r.numbers.items) (importance_of (state_of r)) (waits q2) (count_at q2)
    second =
        waiting_set (number_at r.numbers.items) (importance_of (state_of r)) (waits q1) (count_at q1) first (waits q2) (count_at q2) imp_winner winner pair.winner 0 (iw ∙ ap (importance_of (state_of r)) (sym ew)) ew u2
        (set_here q1 q2 pair.winner 0 (omega (arith, inside.1, set_many r.queue q1 pair.loser 0 c1)) c2) (set_other q1 q2 pair.winner 0 c2)

    none_at_ends : (count_at q2 from ≡ 0) × (count_at q2 to ≡ 0)
    none_at_ends =
        by_ends (λ t. count_at q2 t ≡ 0) (set_other q1 q2 pair.winner 0 c2 pair.loser step.apart ∙ set_here r.queue q1 pair.loser 0 inside.0 c1)
        (set_here q1 q2 pair.winner 0 (omega (arith, inside.1, set_many r.queue q1 pair.loser 0 c1)) c2)

    count_kept : (t : ℕ) → t ≢ from → t ≢ to → count_at q2 t ≡ permitted_count (state_of r) (number_in r t)
    count_kept t a b =
        let no = no_face t a b in
        set_other q1 q2 pair.winner 0 c2 t no.1 ∙ (set_other r.queue q1 pair.loser 0 c1 t no.0 ∙ running.queue.counted t)

    -- ---- in the words of the map after the step

    -- another face keeps its number and its importance
    other_number : (t : ℕ) → t ≢ from → t ≢ to → number_in r t ≢ 0 → (number_in r t ≢ (step_of r pair).loser) × (number_in r t ≢ (step_of r pair).winner)
    other_number t a b live = (
      other_face (state_of r) (step_of r pair) running.slots.known step.step r.numbers.items r.areas.items _ running.slots from to theirs t a b live (number_in r pair.loser) (inl refl),
      other_face (state_of r) (step_of r pair) running.slots.known step.step r.numbers.items r.areas.items _ running.slots from to theirs t a b live (number_in r pair.winner) (inr refl),
    )

    same_importance : (t : ℕ) → t ≢ from → t ≢ to → number_in r t ≢ 0
        → importance_of (after (step_of r pair) (state_of r)) (number_in r t) ≡ importance_of (state_of r) (number_in r t)
    same_importance t a b live =
        let no = other_number t a b live in
        importance_kept (state_of r) (step_of r pair) running.slots.known step.step (number_in r t) live (running.slots.numbered t) no.0 no.1

    renamed : AreWaiting (number_at numbers') (importance_of (after (step_of r pair) (state_of r))) (waits q2) (count_at q2)
    renamed =
        waiting_same (number_at r.numbers.items) (importance_of (state_of r)) (waits q2) (count_at q2) second (number_at numbers') (importance_of (after (step_of r pair) (state_of r)))
        (λ t p.
        let a : t ≢ from = λ e. omega (arith, p, ap (count_at q2) e, none_at_ends.0) in
        let b : t ≢ to = λ e. omega (arith, p, ap (count_at q2) e, none_at_ends.1) in
        let live : number_in r t ≢ 0 = λ z. omega (arith, p, count_kept t a b, ap (permitted_count (state_of r)) z, none_of_zero (state_of r)) in
        (at_other t a b, same_importance t a b live))

    third : AreWaiting (number_at numbers') (importance_of (after (step_of r pair) (state_of r))) (waits q3) (count_at q3)
    third =
        waiting_set (number_at numbers') (importance_of (after (step_of r pair) (state_of r))) (waits q2) (count_at q2) renamed (waits q3) (count_at q3) imp made to permitted (im ∙ ap (importance_of (after (step_of r pair) (state_of r))) (sym em)) (em ∙ sym at_to) u3
        (set_here q2 q3 to permitted to_inside c3) (set_other q2 q3 to permitted c3)

    -- ---- the neighbours of the loser

    place_apart : (place : Place) → IsNeighbourAfter r pair place → (place.slot ≢ from) × (place.slot ≢ to)
    place_apart place is = no_end place.slot own is.other
      where
        own : place.slot ≢ pair.loser
        own e =
            let face : place.number ≡ number_in r pair.loser = is.number ∙ ap (number_in r) e in
            let none = near_itself (state_of r).arcs (number_in r pair.loser) in
            both_ways _ none (subst (λ (f : ℕ). are_neighbours (state_of r).arcs (number_in r pair.loser) f ≡ true) face is.near)

    place_same : (place : Place) → IsNeighbourAfter r pair place
        → (place.number ≡ number_at numbers' place.slot) × (place.importance ≡ importance_of (after (step_of r pair) (state_of r)) place.number)
    place_same place is =
        let ends = place_apart place is in
        let same = same_importance place.slot ends.0 ends.1 (place_live r pair place is) in (
          is.number ∙ sym (at_other place.slot ends.0 ends.1),
          is.importance ∙ (ap (importance_of (state_of r)) is.number ∙ (sym same ∙ ap (importance_of (after (step_of r pair) (state_of r))) (sym is.number))),
        )

    each_apart : AllByRecursion (λ place. (place.slot ≢ from) × (place.slot ≢ to)) places
    each_apart = recursion_from_All (λ (place : Place). (place.slot ≢ from) × (place.slot ≢ to)) places
        (All-weaker (IsNeighbourAfter r pair) (λ (place : Place). (place.slot ≢ from) × (place.slot ≢ to)) place_apart places beside.each)

    ends_unlisted : (places : List Place) → AllByRecursion (λ place. (place.slot ≢ from) × (place.slot ≢ to)) places → (lists places from ≡ false) × (lists places to ≡ false)
    ends_unlisted places each = (none_listed from places (firsts places each), none_listed to places (seconds places each))
      where
        firsts : (places : List Place) → AllByRecursion (λ place. (place.slot ≢ from) × (place.slot ≢ to)) places → AllByRecursion (λ place. place.slot ≢ from) places
        firsts [] each = tt
        firsts (x ∷ places) each = (each.0.0, firsts places each.1)

        seconds : (places : List Place) → AllByRecursion (λ place. (place.slot ≢ from) × (place.slot ≢ to)) places → AllByRecursion (λ place. place.slot ≢ to) places
        seconds [] each = tt
        seconds (x ∷ places) each = (each.0.1, seconds places each.1)

    counts_are : (t : ℕ) → count_at q4 t ≡ cond (lists places t) (permitted_count (after (step_of r pair) (state_of r)) (number_in r t)) (count_at q3 t)
    counts_are =
        counts (λ t. permitted_count (after (step_of r pair) (state_of r)) (number_in r t))
        (All-weaker (IsNeighbourAfter r pair) (λ (place : Place). place.permitted ≡ permitted_count (after (step_of r pair) (state_of r)) (number_in r place.slot))
        (λ place is. is.permitted ∙ ap (permitted_count (after (step_of r pair) (state_of r))) is.number) places beside.each)

    unlisted : (t : ℕ) → lists places t ≡ false → count_at q4 t ≡ count_at q3 t
    unlisted t e = counts_are t ∙ cond-false (lists places t) _ (count_at q3 t) e

    -- a face that is not listed is no neighbour of the loser
    far : (t : ℕ) → t ≢ from → t ≢ to → lists places t ≡ false → (b : Bool) → are_neighbours (state_of r).arcs (number_in r pair.loser) (number_in r t) ≡ b → b ≡ false
    far t a b free false e = refl
    far t a b free true e =
        let length = shared_length (state_of r).arcs (number_in r pair.loser) (number_in r t) in
        let found = next.links.all t length (running.slots.linked pair.loser t ∙ link_some (state_of r).arcs (number_in r pair.loser) (number_in r t) e) in
        let link : Link = record { slot = t; length = length } in
        let at = beside.all found.0 link (slice_get_within pair.links.items found.0 link found.1) in
        let same : (get_or pair.links.items found.0 link).slot ≡ t = ap (λ (x : Link). x.slot) (get_or_from_slice_get pair.links.items found.0 link link found.1) in
        chosen (get_or pair.links.items found.0 link).slot same at
      where
        chosen : (x : ℕ) → x ≡ t → (x ≡ pair.winner) ⊎ (lists places x ≡ true) → true ≡ false
        chosen x e (inl h) = absurd ((no_face t a b).1 (sym e ∙ h))
        chosen x e (inr h) = absurd (both_ways _ free (subst (λ (y : ℕ). lists places y ≡ true) e h))

    counted_other : (t : ℕ) → t ≢ from → t ≢ to → (b : Bool) → lists places t ≡ b → count_at q4 t ≡ permitted_count (after (step_of r pair) (state_of r)) (number_in r t)
    counted_other t a b true e = counts_are t ∙ cond-true (lists places t) _ (count_at q3 t) e
    counted_other t a b false e =
        unlisted t e ∙ (set_other q2 q3 to permitted c3 t b ∙ (count_kept t a b ∙ sym (chosen (cases_eq (number_in r t) 0))))
      where
        chosen : (number_in r t ≡ 0) ⊎ (number_in r t ≡ 0 → ⊥) → permitted_count (after (step_of r pair) (state_of r)) (number_in r t) ≡ permitted_count (state_of r) (number_in r t)
        chosen (inl z) =
            ap (permitted_count (after (step_of r pair) (state_of r))) z ∙ (none_of_zero (after (step_of r pair) (state_of r)) ∙ sym (ap (permitted_count (state_of r)) z ∙ none_of_zero (state_of r)))
        chosen (inr live) =
            let no = other_number t a b live in
            kept_apart (state_of r) (step_of r pair) running.slots.known step.step (number_in r t) (running.slots.numbered t) no.0 no.1 (far t a b e _ refl)

    counted : (t : ℕ) → (t ≡ from) ⊎ (t ≡ from → ⊥) → (t ≡ to) ⊎ (t ≡ to → ⊥) → count_at q4 t ≡ permitted_count (after (step_of r pair) (state_of r)) (number_at numbers' t)
    counted t (inl a) _ =
        subst (λ (x : ℕ). count_at q4 x ≡ permitted_count (after (step_of r pair) (state_of r)) (number_at numbers' x)) (sym a)
        (unlisted from (ends_unlisted places each_apart).0 ∙ (set_other q2 q3 to permitted c3 from ends_apart ∙ (none_at_ends.0
        ∙ sym (ap (permitted_count (after (step_of r pair) (state_of r))) at_from ∙ none_of_zero (after (step_of r pair) (state_of r))))))
    counted t (inr a) (inl b) =
        subst (λ (x : ℕ). count_at q4 x ≡ permitted_count (after (step_of r pair) (state_of r)) (number_at numbers' x)) (sym b)
        (unlisted to (ends_unlisted places each_apart).1 ∙ (set_here q2 q3 to permitted to_inside c3 ∙ (ep ∙ ap (permitted_count (after (step_of r pair) (state_of r))) (sym at_to))))
    counted t (inr a) (inr b) = counted_other t a b (lists places t) refl ∙ ap (permitted_count (after (step_of r pair) (state_of r))) (sym (at_other t a b))

    -- the queue is that of the map after the step
    pub requeued : IsQueueOf (after (step_of r pair) (state_of r)) numbers' q4
    requeued = record {
      slots = omega (arith, slots, set_many q2 q3 to permitted c3, set_many q1 q2 pair.winner 0 c2, set_many r.queue q1 pair.loser 0 c1, running.queue.slots, as_many);
      counted = λ t. counted t (cases_eq t from) (cases_eq t to);
      faces = waiting (number_at numbers') (importance_of (after (step_of r pair) (state_of r)))
          (All-weaker (IsNeighbourAfter r pair) (λ (place : Place). (place.number ≡ number_at numbers' place.slot) × (place.importance ≡ importance_of (after (step_of r pair) (state_of r)) place.number))
          place_same places beside.each) third;
    }
