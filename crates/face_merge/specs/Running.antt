-- A map while it is merged, as the program holds it, beside what its steps make of the base map.
use Rattle.std.specs.Prelude.{◌≡◌, ◌≢◌, ◌⊎◌, ◌<◌, ◌≤◌, ℕ, ◌+◌, ℤ, pos, false, List, length, slice_index, slice_index_or, Option, Some, MatchOption, IsTrue, IsFalse}
use Rattle.std.specs.List.{All}
use Rattle.tgap_model.specs.declared.merge.MergeStep.{MergeStep}
use Rattle.tgap_model.specs.History.{are_neighbours, area_of, class_of, wins_before}
use Rattle.face_merge.specs.declared.links.Link.{Link}
use Rattle.face_merge.specs.declared.merging.Face.{Face}
use Rattle.face_merge.specs.declared.merging.Merging.{Merging}
use Rattle.face_merge.specs.declared.merging.Pair.{Pair}
use Rattle.face_merge.specs.declared.merging.step.Ends.{Ends}
use Rattle.face_merge.specs.declared.queue.Place.{Place}
use Rattle.face_merge.specs.declared.queue.Queue.{Queue}
use Rattle.face_merge.specs.Links.{AreLinksOf, AreOnce, length_at}
use Rattle.face_merge.specs.Linking.{link_of}
use Rattle.face_merge.specs.Merging.{MergeState, IsMerging, after, after_steps, importance_of, next_of, permits_in, permitted_count}
use Rattle.face_merge.specs.Queue.{waits, count_at, lists, AreWaiting}

-- the number of the face in a slot, 0 where there is none
abbrev pub number_at : List ℕ → ℕ → ℕ
number_at numbers s = slice_index numbers s

-- The faces in their slots, with their areas and links, are those of the map m.
pub record AreInSlots (m : MergeState) (numbers : List ℕ) (areas : List ℤ) (lengths : ℕ → ℕ → Option ℕ) : Type 0 where
  pub known : IsMerging m
  pub count : length areas ≡ length numbers
  pub few_slots : length numbers ≤ length m.classes + 1
  pub numbered : (s : ℕ) → number_at numbers s ≤ length m.classes
  pub apart : (s t : ℕ) → number_at numbers s ≡ number_at numbers t → number_at numbers s ≢ 0 → s ≡ t
  pub covered : (f g : ℕ) → IsTrue (are_neighbours m.arcs f g) → (s : ℕ) × (number_at numbers s ≡ f)
  pub areas_are : (s : ℕ) → number_at numbers s ≢ 0 → slice_index_or areas s (pos 0) ≡ area_of m.arcs (number_at numbers s)
  pub linked : (s t : ℕ) → lengths s t ≡ link_of m.arcs (number_at numbers s) (number_at numbers t)

-- The queue has the faces of the map m that have a permitted neighbour, and counts the permitted neighbours of each face.
pub record IsQueueOf (m : MergeState) (numbers : List ℕ) (queue : Queue) : Type 0 where
  pub slots : length queue.counts.items ≡ length numbers
  pub counted : (s : ℕ) → count_at queue s ≡ permitted_count m (number_at numbers s)
  pub faces : AreWaiting (number_at numbers) (importance_of m) (waits queue) (count_at queue)

-- the same of the faces of a base map below k, each in the slot of its number, out of n slots
pub record IsQueueBelow (m : MergeState) (n k : ℕ) (queue : Queue) : Type 0 where
  pub slots : length queue.counts.items ≡ n
  pub counted : (s : ℕ) → s < k → count_at queue s ≡ permitted_count m s
  pub rest : (s : ℕ) → k ≤ s → count_at queue s ≡ 0
  pub faces : AreWaiting (λ s. s) (importance_of m) (waits queue) (count_at queue)

-- the map after the steps so far
abbrev pub state_of : Merging → MergeState
state_of r = after_steps r.base.now r.steps

-- the number of the face in a slot
abbrev pub number_in : Merging → ℕ → ℕ
number_in r s = number_at r.numbers.items s

-- a face stands in the slot
abbrev pub IsLive : Merging → ℕ → Type 0
IsLive r s = number_in r s ≢ 0

-- what is held is the map after the steps so far
pub record IsRunning (r : Merging) : Type 0 where
  pub classes : r.classes.items ≡ (state_of r).classes
  pub slots : AreInSlots (state_of r) r.numbers.items r.areas.items (length_at r.links)
  pub queue : IsQueueOf (state_of r) r.numbers.items r.queue

-- the step of two faces
abbrev pub step_of : Merging → Pair → MergeStep
step_of r pair = record { loser = number_in r pair.loser; winner = number_in r pair.winner; made = length (state_of r).classes + 1 }

-- the two faces are the next ones to be merged
pub record IsNextPair (r : Merging) (pair : Pair) : Type 0 where
  pub next : next_of (state_of r) ≡ Some (step_of r pair)
  pub links : AreLinksOf (length_at r.links) pair.loser pair.links.items
  pub once : AreOnce pair.links.items

-- what is read of the face in a slot
pub record IsFaceAt (r : Merging) (slot : ℕ) (face : Face) : Type 0 where
  pub number : face.number ≡ number_in r slot
  pub class : face.class ≡ class_of (state_of r).classes (number_in r slot)
  pub below : face.class < length (state_of r).rules.weights

-- a neighbour of the loser, as it stands after the step
pub record IsNeighbourAfter (r : Merging) (pair : Pair) (place : Place) : Type 0 where
  pub number : place.number ≡ number_in r place.slot
  pub importance : place.importance ≡ importance_of (state_of r) place.number
  pub near : IsTrue (are_neighbours (state_of r).arcs (number_in r pair.loser) place.number)
  pub other : place.slot ≢ pair.winner
  pub permitted : place.permitted ≡ permitted_count (after (step_of r pair) (state_of r)) place.number

-- these are the places of the neighbours of the loser that these links lead to, without the winner's
pub record AreNeighboursAfter (r : Merging) (pair : Pair) (links : List Link) (places : List Place) : Type 0 where
  pub each : All (IsNeighbourAfter r pair) places
  pub all : All (λ link. (link.slot ≡ pair.winner) ⊎ IsTrue (lists places link.slot)) links

-- the face of a link is one that this face permits
abbrev pub IsPermitted : Merging → ℕ → Link → Type 0
IsPermitted r f link = IsTrue (permits_in (state_of r) f (number_in r link.slot))

-- the link of a face leads to a neighbour
abbrev pub IsLinkOf : Merging → ℕ → Link → Type 0
IsLinkOf r f link = link_of (state_of r).arcs f (number_in r link.slot) ≡ Some link.length

-- the face of the first link does not win before that of the second
abbrev pub IsNotBefore : Merging → ℕ → Link → Link → Type 0
IsNotBefore r loser a b =
    wins_before (state_of r).rules (state_of r).classes (state_of r).arcs loser (number_in r a.slot) (number_in r b.slot) ≡ false

-- of the best link so far and one more, the better one
pub record IsBetterLink (r : Merging) (loser : ℕ) (best : Option Link) (link found : Link) : Type 0 where
  pub either : MatchOption best (found ≡ link) (λ old. (found ≡ old) ⊎ (found ≡ link))
  pub new : IsNotBefore r loser link found
  pub old : MatchOption best (Unit {0}) (λ old. IsNotBefore r loser old found)

-- of those of these links that lead to permitted neighbours, the best one
pub record IsBestLink (r : Merging) (loser : ℕ) (links : List Link) (best : Link) : Type 0 where
  pub neighbour : IsLinkOf r loser best
  pub permitted : IsPermitted r loser best
  pub first : All (λ link. IsPermitted r loser link → IsNotBefore r loser link best) links

-- none of these links leads to a permitted neighbour
abbrev pub AreBarred : Merging → ℕ → List Link → Type 0
AreBarred r loser links = All (λ link. IsFalse (permits_in (state_of r) loser (number_in r link.slot))) links

-- the slots of the two faces, one way round or the other
abbrev pub AreEnds : Pair → Ends → Type 0
AreEnds pair ends = ((ends.from ≡ pair.loser) × (ends.to ≡ pair.winner)) ⊎ ((ends.from ≡ pair.winner) × (ends.to ≡ pair.loser))
