-- A neighbour of the loser, and the new face, by what is held: how many permitted neighbours they have after the step.
use Rattle.std.proofs.Common.{◌≡◌, ◌≢◌, ◌<◌, ◌⊎◌, inl, inr, ℕ, ◌+◌, Bool, true, false, not, ◌&&◌, ◌||◌, ◌==◌, List, [], ◌∷◌, ◌++◌, length, take, get_or, refl, ◌∙◌, ap, arith, eq-eqb}
use Rattle.std.specs.Prelude.{count_by}
use Rattle.std.specs.Int.{from_bool}
use Rattle.std.specs.Option.{is_some}
use Rattle.std.proofs.lemmas.List.Elements.{All-more, All-push, All-weaker}
use Rattle.tgap_model.specs.History.{are_neighbours, is_permitted}
use Rattle.face_merge.specs.declared.links.Link.{Link}
use Rattle.face_merge.specs.declared.merging.Merging.{Merging}
use Rattle.face_merge.specs.declared.merging.Pair.{Pair}
use Rattle.face_merge.specs.declared.queue.Place.{Place}
use Rattle.face_merge.specs.Links.{length_at}
use Rattle.face_merge.specs.Merging.{after, count_below, is_gained, permits_in, permitted_count}
use Rattle.face_merge.specs.Queue.{count_at, lists}
use Rattle.face_merge.specs.Running.{AreNeighboursAfter, IsLinkOf, IsNeighbourAfter, IsNextPair, IsRunning, number_in, state_of, step_of}
use Rattle.face_merge.proofs.Below.{below_most, by_bool}
use Rattle.face_merge.proofs.Best.{link_live}
use Rattle.face_merge.proofs.Held.{HeldPair, held, held_pair}
use Rattle.face_merge.proofs.Linking.{link_length}
use Rattle.face_merge.proofs.Slots.{turned_near}
use Rattle.face_merge.proofs.Queued.{lists_push}
use Rattle.face_merge.proofs.Permitted.{kept_beside, links_counted, made_count, near_below, near_link}

-- whether two faces are neighbours, by their link
pub near_is : (r : Merging) (s t : ℕ) → IsRunning r → is_some (length_at r.links s t) ≡ are_neighbours (state_of r).arcs (number_in r s) (number_in r t)
near_is r s t running = ap is_some (running.slots.linked s t) ∙ near_link (state_of r).arcs (number_in r s) (number_in r t)

-- a face has few permitted neighbours
pub count_small : (r : Merging) (slot n : ℕ) → IsRunning r → n ≡ count_at r.queue slot → n < 4294967296
count_small r slot n running e =
    omega (
      arith,
      e,
      running.queue.counted slot,
      below_most (is_permitted (state_of r).rules (state_of r).classes (state_of r).arcs (number_in r slot)) (length (state_of r).classes + 1),
      running.slots.known.few_faces,
    )

-- one more link of the loser: the place of its face after the step, or the winner's
pub places_more : (r : Merging) (pair : Pair) (links : List Link) (i : ℕ) (d : Link) (places : List Place) (place : Place) → i < length links → place.slot ≡ (get_or links i d).slot
    → IsNeighbourAfter r pair place → AreNeighboursAfter r pair (take i links) places → AreNeighboursAfter r pair (take (i + 1) links) (places ++ place ∷ [])
places_more r pair links i d places place inside same is known = record {
  each = All-push (IsNeighbourAfter r pair) places place known.each is;
  all = All-more (λ (link : Link). (link.slot ≡ pair.winner) ⊎ (lists (places ++ place ∷ []) link.slot ≡ true)) links i d inside
      (All-weaker (λ (link : Link). (link.slot ≡ pair.winner) ⊎ (lists places link.slot ≡ true)) (λ (link : Link). (link.slot ≡ pair.winner) ⊎ (lists (places ++ place ∷ []) link.slot ≡ true))
      (λ link h. still link.slot h) (take i links) known.all)
      (inr (lists_push places place (get_or links i d).slot ∙ or_yes (lists places (get_or links i d).slot) (place.slot == (get_or links i d).slot) (eq-eqb place.slot (get_or links i d).slot same)));
} where
  or_yes : (a b : Bool) → b ≡ true → (a || b) ≡ true
  or_yes true b e = refl
  or_yes false b e = e

  or_left : (a b : Bool) → a ≡ true → (a || b) ≡ true
  or_left a b e = rw e refl

  still : (s : ℕ) → (s ≡ pair.winner) ⊎ (lists places s ≡ true) → (s ≡ pair.winner) ⊎ (lists (places ++ place ∷ []) s ≡ true)
  still s (inl e) = inl e
  still s (inr h) = inr (lists_push places place s ∙ or_left (lists places s) (place.slot == s) h)

pub places_same : (r : Merging) (pair : Pair) (links : List Link) (i : ℕ) (d : Link) (places : List Place) → i < length links → (get_or links i d).slot ≡ pair.winner
    → AreNeighboursAfter r pair (take i links) places → AreNeighboursAfter r pair (take (i + 1) links) places
places_same r pair links i d places inside is known = record {
  each = known.each;
  all = All-more (λ (link : Link). (link.slot ≡ pair.winner) ⊎ (lists places link.slot ≡ true)) links i d inside known.all (inl is);
}

-- the slot of a link is among those of the queue
pub link_inside : (r : Merging) (f : ℕ) (link : Link) → IsRunning r → IsLinkOf r f link → link.slot < length r.queue.counts.items
link_inside r f link running is = omega (arith, (held r link.slot running (link_live r f link is)).inside, running.queue.slots)

module _ (r : Merging) (pair : Pair) (running : IsRunning r) (next : IsNextPair r pair) where
  step : HeldPair r pair
  step = held_pair r pair running next

  pub winner_inside : pair.winner < length r.queue.counts.items
  winner_inside = omega (arith, (held r pair.winner running step.winner).inside, running.queue.slots)

  -- a neighbour of the loser
  pub count_beside : (link : Link) → IsLinkOf r (number_in r pair.loser) link → link.slot ≢ pair.winner → (count gained lost : ℕ) → count ≡ count_at r.queue link.slot
      → gained ≡ from_bool (not (are_neighbours (state_of r).arcs (number_in r pair.winner) (number_in r link.slot)) && permits_in (state_of r) (number_in r link.slot) (number_in r pair.winner))
      → lost ≡ from_bool (permits_in (state_of r) (number_in r link.slot) (number_in r pair.loser))
      → count + gained ≡ permitted_count (after (step_of r pair) (state_of r)) (number_in r link.slot) + lost
  count_beside link is other count gained lost ec eg el =
      let near = (link_length (state_of r).arcs (number_in r pair.loser) (number_in r link.slot) link.length is).0 in
      let live = link_live r (number_in r pair.loser) link is in
      let not_winner : number_in r link.slot ≢ number_in r pair.winner = λ e. other (running.slots.apart link.slot pair.winner e live) in
      let kept = kept_beside (state_of r) (step_of r pair) running.slots.known step.step (number_in r link.slot) (running.slots.numbered link.slot) not_winner near in
      let new = by_bool (not (are_neighbours (state_of r).arcs (number_in r pair.winner) (number_in r link.slot)) && permits_in (state_of r) (number_in r link.slot) (number_in r pair.winner)) in
      let old = by_bool (permits_in (state_of r) (number_in r link.slot) (number_in r pair.loser)) in
      omega (arith, kept, ec, eg, el, new, old, running.queue.counted link.slot)

  -- the neighbours that the new face gains are few
  counted_links : (gained : ℕ) → gained ≡ count_by (λ link. is_gained (state_of r) (number_in r pair.winner) (number_in r link.slot)) pair.links.items
      → gained ≡ count_below (λ g. are_neighbours (state_of r).arcs (number_in r pair.loser) g && is_gained (state_of r) (number_in r pair.winner) g) (length (state_of r).classes + 1)
  counted_links gained eg =
      let m = state_of r in
      let inside : (g : ℕ) → are_neighbours m.arcs (number_in r pair.loser) g ≡ true → g < length m.classes + 1 =
      λ g e. omega (arith, (near_below m (step_of r pair) running.slots.known step.step (number_in r pair.loser) g e).1) in
      eg ∙ links_counted m.arcs (length_at r.links) (number_in r) pair.loser (length m.classes + 1) (running.slots.linked pair.loser) running.slots.apart
      (λ g e. running.slots.covered g (number_in r pair.loser) (turned_near m.arcs (number_in r pair.loser) g e)) inside
      (is_gained m (number_in r pair.winner)) pair.links.items next.links next.once

  pub gained_small : (gained : ℕ) → gained ≡ count_by (λ link. is_gained (state_of r) (number_in r pair.winner) (number_in r link.slot)) pair.links.items → gained < 4294967296
  gained_small gained eg =
      omega (
        arith,
        counted_links gained eg,
        below_most (λ g. are_neighbours (state_of r).arcs (number_in r pair.loser) g && is_gained (state_of r) (number_in r pair.winner) g) (length (state_of r).classes + 1),
        running.slots.known.few_faces,
      )

  -- the new face
  pub count_made : (count gained lost : ℕ) → count ≡ count_at r.queue pair.winner
      → gained ≡ count_by (λ link. is_gained (state_of r) (number_in r pair.winner) (number_in r link.slot)) pair.links.items
      → lost ≡ from_bool (permits_in (state_of r) (number_in r pair.winner) (number_in r pair.loser))
      → count + gained ≡ permitted_count (after (step_of r pair) (state_of r)) (step_of r pair).made + lost
  count_made count gained lost ec eg el =
      let m = state_of r in
      omega (arith, made_count m (step_of r pair) running.slots.known step.step, counted_links gained eg, ec, el, by_bool (permits_in m (number_in r pair.winner) (number_in r pair.loser)), running.queue.counted pair.winner)
