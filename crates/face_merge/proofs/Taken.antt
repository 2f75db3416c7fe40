-- A step, by what is done for it: the slots, the areas and the links after it are those of the map after it.
use Rattle.std.proofs.Common.{◌≡◌, ◌≢◌, ◌<◌, ◌≤◌, ◌⊎◌, inl, inr, ℕ, ◌+◌, ◌^◌, ℤ, pos, ◌+ℤ◌, ◌*ℤ◌, unsigned_abs, List, length, map, get_or, set, to_z, of_z, slice_index, get_or-set_same, get_or-set_other, length-set, sym, ◌∙◌, ap, subst, arith}
use Rattle.std.specs.Int.{w128}
use Rattle.std.proofs.lemmas.List.Elements.{recursion_from_All}
use Rattle.tgap_model.specs.declared.base.Rules.{Rules}
use Rattle.tgap_model.specs.declared.merge.MergeStep.{MergeStep}
use Rattle.tgap_model.specs.Bounds.{max_area}
use Rattle.tgap_model.specs.History.{class_of, area_of, relabel_arc}
use Rattle.face_merge.specs.declared.merging.Merging.{Merging}
use Rattle.face_merge.specs.declared.merging.Pair.{Pair}
use Rattle.face_merge.specs.declared.merging.step.Ends.{Ends}
use Rattle.face_merge.specs.Links.{Fit, joined, length_at}
use Rattle.face_merge.specs.Merging.{MergeState, IsLabelled, after, importance_of}
use Rattle.face_merge.specs.Running.{AreEnds, AreInSlots, IsNextPair, IsRunning, number_at, number_in, state_of, step_of}
use Rattle.face_merge.proofs.Joined.{Lengths}
use Rattle.face_merge.proofs.Sums.{area_small, face_area_is, joined_is}
use Rattle.face_merge.proofs.Slots.{joined_fit, slots_after, slots_apart, importance_made}
use Rattle.face_merge.proofs.Numbers.{merging_after, next_step_numbered}
use Rattle.face_merge.proofs.Relabelled.{area_made}
use Rattle.face_merge.proofs.Held.{HeldPair, held, held_pair, importance_back, rules_are}

module _ (r : Merging) (pair : Pair) (running : IsRunning r) (next : IsNextPair r pair) where
  step : HeldPair r pair
  step = held_pair r pair running next

  m : MergeState
  m = state_of r

  s : MergeStep
  s = step_of r pair

  -- the slots of the two faces, one way round or the other
  abbrev pub AreTheirs : ℕ → ℕ → Type 0
  AreTheirs from to = ((number_in r from ≡ number_in r pair.loser) × (number_in r to ≡ number_in r pair.winner)) ⊎ ((number_in r from ≡ number_in r pair.winner) × (number_in r to ≡ number_in r pair.loser))

  theirs : (ends : Ends) → AreEnds pair ends → AreTheirs ends.from ends.to
  theirs ends (inl h) = inl (ap (number_in r) h.0, ap (number_in r) h.1)
  theirs ends (inr h) = inr (ap (number_in r) h.0, ap (number_in r) h.1)

  -- the links of both together fit, whichever slot is left
  pub both_fit : (from to : ℕ) → AreTheirs from to → Fit (joined (length_at r.links) from to)
  both_fit from to are =
      joined_fit (state_of r) (step_of r pair) running.slots.known step.step r.numbers.items r.areas.items (length_at r.links) running.slots from to are

  -- the area of the new face
  pub sum_is : (x y : ℤ) → x ≡ area_of (state_of r).arcs (number_in r pair.loser) → y ≡ area_of (state_of r).arcs (number_in r pair.winner)
      → to_z w128 (of_z w128 (to_z w128 (of_z w128 x) +ℤ to_z w128 (of_z w128 y))) ≡ area_of (state_of r).arcs (number_in r pair.loser) +ℤ area_of (state_of r).arcs (number_in r pair.winner)
  sum_is x y ex ey =
      let known = running.slots.known in
      let px = area_small (number_in r pair.loser) (state_of r).arcs known.measured known.few_arcs in
      let py = area_small (number_in r pair.winner) (state_of r).arcs known.measured known.few_arcs in
      let l = area_of (state_of r).arcs (number_in r pair.loser) in
      let w = area_of (state_of r).arcs (number_in r pair.winner) in
      joined_is l w (to_z w128 (of_z w128 x) +ℤ to_z w128 (of_z w128 y)) px py
      (ap (λ (u : ℤ). u +ℤ to_z w128 (of_z w128 y)) (face_area_is l x px ex) ∙ ap (λ (u : ℤ). l +ℤ u) (face_area_is w y py ey))

  pub sum_small : (z : ℤ) → z ≡ area_of (state_of r).arcs (number_in r pair.loser) +ℤ area_of (state_of r).arcs (number_in r pair.winner) → unsigned_abs z ≤ max_area
  sum_small z e =
      let known = running.slots.known in
      let after_known = merging_after (state_of r) (step_of r pair) known step.step in
      let numbered = next_step_numbered (state_of r).rules (state_of r).classes (state_of r).arcs (step_of r pair) known.labelled step.step in
      let made = area_made (length (state_of r).classes) (step_of r pair) (state_of r).arcs numbered (recursion_from_All (IsLabelled (length (state_of r).classes)) (state_of r).arcs known.labelled) in
      subst (λ (x : ℤ). unsigned_abs x ≤ max_area) (made ∙ sym e)
      (area_small (step_of r pair).made (map (relabel_arc (step_of r pair)) (state_of r).arcs) after_known.measured after_known.few_arcs)

  -- its importance
  pub new_importance : (z : ℤ) (k : ℕ) (rules : Rules) → rules ≡ r.base.now.rules → z ≡ area_of (state_of r).arcs (number_in r pair.loser) +ℤ area_of (state_of r).arcs (number_in r pair.winner)
      → k ≡ class_of (state_of r).classes (number_in r pair.winner) → (x : ℤ) → x ≡ z *ℤ pos (slice_index rules.weights k)
      → to_z w128 (of_z w128 x) ≡ importance_of (after (step_of r pair) (state_of r)) (step_of r pair).made
  new_importance z k rules er ez ek x ex =
      let same : rules ≡ (state_of r).rules = er ∙ sym (rules_are r.base.now r.steps) in
      let made = importance_made (state_of r) (step_of r pair) running.slots.known step.step in
      let now : z *ℤ pos (slice_index rules.weights k) ≡ importance_of (after (step_of r pair) (state_of r)) (step_of r pair).made = rw (same, ez, ek) (sym made) in
      importance_back (after (step_of r pair) (state_of r)) (step_of r pair).made x (merging_after (state_of r) (step_of r pair) running.slots.known step.step) (ex ∙ now)

  -- the two slots are among the slots
  pub ends_inside : (ends : Ends) → AreEnds pair ends → (ends.from < length r.numbers.items) × (ends.to < length r.numbers.items) × (ends.to < length r.areas.items) × (ends.to + 1 < 2 ^ 32)
  ends_inside ends (inl h) =
      let loser = held r pair.loser running step.loser in
      let winner = held r pair.winner running step.winner in
      (omega (arith, loser.inside, h.0), omega (arith, winner.inside, h.1), omega (arith, winner.inside_areas, h.1), omega (arith, winner.small_slot, h.1))
  ends_inside ends (inr h) =
      let loser = held r pair.loser running step.loser in
      let winner = held r pair.winner running step.winner in
      (omega (arith, winner.inside, h.0), omega (arith, loser.inside, h.1), omega (arith, loser.inside_areas, h.1), omega (arith, loser.small_slot, h.1))

  module _ (ends : Ends) (are : AreEnds pair ends) (numbers' : List ℕ) (areas' : List ℤ) (w' : Lengths) (z : ℤ)
      (numbers_are : numbers' ≡ set (set r.numbers.items ends.from 0) ends.to (step_of r pair).made)
      (areas_are : areas' ≡ set r.areas.items ends.to z)
      (sum : z ≡ area_of (state_of r).arcs (number_in r pair.loser) +ℤ area_of (state_of r).arcs (number_in r pair.winner))
      (lengths : (a b : ℕ) → w' a b ≡ joined (length_at r.links) ends.from ends.to a b)
      (from_inside : ends.from < length r.numbers.items) (to_inside : ends.to < length r.numbers.items) (to_area : ends.to < length r.areas.items)
    where
      -- the two slots have no face and the new one, and each other slot has its own
      pub ends_apart : ends.from ≢ ends.to
      ends_apart =
          slots_apart (state_of r) (step_of r pair) running.slots.known step.step r.numbers.items r.areas.items (length_at r.links) running.slots ends.from ends.to (theirs ends are)

      pub many : length numbers' ≡ length r.numbers.items
      many = ap length numbers_are ∙ (length-set (set r.numbers.items ends.from 0) ends.to (step_of r pair).made ∙ length-set r.numbers.items ends.from 0)

      pub number_from : number_at numbers' ends.from ≡ 0
      number_from =
          ap (λ (xs : List ℕ). number_at xs ends.from) numbers_are
          ∙ (get_or-set_other (set r.numbers.items ends.from 0) ends.to ends.from (step_of r pair).made 0 ends_apart ∙ get_or-set_same r.numbers.items ends.from 0 0 from_inside)

      pub number_to : number_at numbers' ends.to ≡ (step_of r pair).made
      number_to =
          ap (λ (xs : List ℕ). number_at xs ends.to) numbers_are
          ∙ get_or-set_same (set r.numbers.items ends.from 0) ends.to (step_of r pair).made 0 (omega (arith, to_inside, length-set r.numbers.items ends.from 0))

      pub number_other : (t : ℕ) → t ≢ ends.from → t ≢ ends.to → number_at numbers' t ≡ number_in r t
      number_other t a b =
          ap (λ (xs : List ℕ). number_at xs t) numbers_are
          ∙ (get_or-set_other (set r.numbers.items ends.from 0) ends.to t (step_of r pair).made 0 b ∙ get_or-set_other r.numbers.items ends.from t 0 0 a)

      pub taken : AreInSlots (after (step_of r pair) (state_of r)) numbers' areas' w'
      taken =
          slots_after (state_of r) (step_of r pair) running.slots.known step.step r.numbers.items r.areas.items (length_at r.links) running.slots ends.from ends.to (theirs ends are)
          numbers' areas' w'
          (ap length areas_are ∙ (length-set r.areas.items ends.to z ∙ (running.slots.count ∙ sym many)))
          many number_from number_to number_other
          (ap (λ (xs : List ℤ). get_or xs ends.to (pos 0)) areas_are ∙ (get_or-set_same r.areas.items ends.to z (pos 0) to_area ∙ sum))
          (λ t b. ap (λ (xs : List ℤ). get_or xs t (pos 0)) areas_are ∙ get_or-set_other r.areas.items ends.to t z (pos 0) b)
          lengths
