-- What is known of a face in a slot, and of the rules.
use Rattle.std.proofs.Common.{◌≡◌, ◌≢◌, ◌<◌, ◌≤◌, ℕ, zero, suc, true, ◌&&◌, ◌+◌, ◌-◌, ℤ, pos, ◌*ℤ◌, unsigned_abs, List, [], ◌∷◌, ◌++◌, length, fold, get_or, slice_index, to_z, of_z, refl, sym, ◌∙◌, ap, subst, arith}
use Rattle.std.specs.Int.{w128}
use Rattle.std.specs.Prelude.{nat_le}
use Rattle.std.specs.List.{list_all}
use Rattle.std.proofs.lemmas.Bool.{and_parts}
use Rattle.std.proofs.lemmas.Bool.Decides.{nat_tests}
use Rattle.std.proofs.lemmas.Int.{to_z-of_z}
use Rattle.std.proofs.lemmas.List.{get_or_past, get_or_default}
use Rattle.tgap_model.specs.declared.limits.TheConstants.{MAX_WEIGHT}
use Rattle.tgap_model.proofs.BaseFacts.{rules_facts}
use Rattle.std.proofs.lemmas.List.Elements.{All-get_or}
use Rattle.tgap_model.specs.declared.base.Rules.{Rules}
use Rattle.tgap_model.specs.declared.merge.MergeStep.{MergeStep}
use Rattle.tgap_model.specs.Base.{BaseMap}
use Rattle.tgap_model.specs.Bounds.{max_area}
use Rattle.tgap_model.specs.History.{class_of, area_of, IsNextStep}
use Rattle.face_merge.specs.declared.merging.Merging.{Merging}
use Rattle.face_merge.specs.Merging.{MergeState, IsMerging, begin, after, after_steps, importance_of}
use Rattle.face_merge.specs.declared.merging.Pair.{Pair}
use Rattle.face_merge.specs.Running.{IsRunning, IsLive, IsNextPair, number_at, number_in, state_of, step_of}
use Rattle.face_merge.proofs.Steps.{next_step_is}
use Rattle.face_merge.proofs.Numbers.{next_step_numbered}
use Rattle.face_merge.proofs.Sums.{area_small, face_area_is, weighted_fits}

-- the rules stay
rules_stay : (m : MergeState) (steps : List MergeStep) → (fold (λ state s. after s state) m steps).rules ≡ m.rules
rules_stay m [] = refl
rules_stay m (s ∷ steps) = rules_stay (after s m) steps

pub rules_are : (m : BaseMap) (steps : List MergeStep) → (after_steps m steps).rules ≡ m.rules
rules_are m steps = rules_stay (begin m) steps

-- one more step
pub one_more_step : (m : BaseMap) (steps : List MergeStep) (s : MergeStep) → after_steps m (steps ++ s ∷ []) ≡ after s (after_steps m steps)
one_more_step m steps s = last (begin m) steps
  where
    last : (state : MergeState) (steps : List MergeStep) → fold (λ state s. after s state) state (steps ++ s ∷ []) ≡ after s (fold (λ state s. after s state) state steps)
    last state [] = refl
    last state (t ∷ steps) = last (after t state) steps

above : (f : ℕ) → f ≢ 0 → 0 < f
above f h = omega (arith, h)

-- a face stands in one of the slots
pub live_inside : (numbers : List ℕ) (s : ℕ) → number_at numbers s ≢ 0 → s < length numbers
live_inside numbers s live = grind (arith, get_or_past)

-- the face in a slot
pub record HeldFace (r : Merging) (slot : ℕ) : Type 0 where
  pub inside : slot < length r.numbers.items
  pub inside_areas : slot < length r.areas.items
  pub small_slot : slot + 1 < 4294967296
  pub below : number_in r slot ≤ length (state_of r).classes
  pub class_below : class_of (state_of r).classes (number_in r slot) < length r.base.now.rules.weights
  pub area : get_or r.areas.items slot (pos 0) ≡ area_of (state_of r).arcs (number_in r slot)
  pub small : unsigned_abs (get_or r.areas.items slot (pos 0)) ≤ max_area

pub held : (r : Merging) (slot : ℕ) → IsRunning r → IsLive r slot → HeldFace r slot
held r slot running live =
    let known = running.slots in
    let m = state_of r in
    let inside = live_inside r.numbers.items slot live in
    let below = known.numbered slot in
    let place : number_in r slot - 1 < length m.classes = omega (arith, below, above (number_in r slot) live) in
    let area = known.areas_are slot live in
    record {
      inside = inside;
      inside_areas = omega (arith, inside, known.count);
      small_slot = omega (arith, inside, known.few_slots, known.known.few_faces);
      below = below;
      class_below = subst (λ (rules : Rules). class_of m.classes (number_in r slot) < length rules.weights) (rules_are r.base.now r.steps)
          (All-get_or (λ (k : ℕ). k < length m.rules.weights) m.classes (number_in r slot - 1) 0 place known.known.classed);
      area = area;
      small = subst (λ (z : ℤ). unsigned_abs z ≤ max_area) (sym area) (area_small (number_in r slot) m.arcs known.known.measured known.known.few_arcs);
    }

-- what is read of it
pub number_read : (r : Merging) (slot n : ℕ) → HeldFace r slot → n ≡ get_or r.numbers.items slot n → n ≡ number_in r slot
number_read r slot n face e = e ∙ get_or_default r.numbers.items slot n 0 face.inside

pub class_read : (r : Merging) (slot n k : ℕ) → IsRunning r → IsLive r slot → HeldFace r slot → n ≡ get_or r.numbers.items slot n → k ≡ get_or r.classes.items (n - 1) k
    → k ≡ class_of (state_of r).classes (number_in r slot)
class_read r slot n k running live face en ek =
    let number = number_read r slot n face en in
    let classes = running.classes in
    let inside : number_in r slot - 1 < length (state_of r).classes = omega (arith, face.below, above (number_in r slot) live) in
    ek ∙ (ap (λ (x : ℕ). get_or r.classes.items (x - 1) k) number ∙ (ap (λ (ks : List ℕ). get_or ks (number_in r slot - 1) k) classes
    ∙ get_or_default (state_of r).classes (number_in r slot - 1) k 0 inside))

pub area_read : (r : Merging) (slot : ℕ) (x : ℤ) → HeldFace r slot → x ≡ get_or r.areas.items slot x → to_z w128 (of_z w128 x) ≡ area_of (state_of r).arcs (number_in r slot)
area_read r slot x face e =
    face_area_is (get_or r.areas.items slot (pos 0)) x face.small (e ∙ get_or_default r.areas.items slot x (pos 0) face.inside_areas) ∙ face.area

-- its importance
pub importance_read : (r : Merging) (slot : ℕ) (z : ℤ) (k : ℕ) (rules : Rules) → rules ≡ r.base.now.rules → z ≡ area_of (state_of r).arcs (number_in r slot)
    → k ≡ class_of (state_of r).classes (number_in r slot) → z *ℤ pos (slice_index rules.weights k) ≡ importance_of (state_of r) (number_in r slot)
importance_read r slot z k rules er ez ek =
    let same : rules ≡ (state_of r).rules = er ∙ sym (rules_are r.base.now r.steps) in
    rw (same, ez, ek) refl

-- ---- an importance fits

pub weight_below : (ws : List ℕ) → list_all (λ w. nat_le 1 w && nat_le w MAX_WEIGHT) ws ≡ true → (k : ℕ) → get_or ws k 0 ≤ MAX_WEIGHT
weight_below [] e k = let nil : List ℕ = [] in let past : get_or nil k 0 ≡ 0 = get_or_past nil k 0 (omega arith) in omega (arith, past)
weight_below (w ∷ ws) e zero =
    let parts = and_parts (nat_le 1 w && nat_le w MAX_WEIGHT) _ e in
    within w (and_parts (nat_le 1 w) (nat_le w MAX_WEIGHT) parts.0).1
  where
    within : (w : ℕ) → nat_le w MAX_WEIGHT ≡ true → w ≤ MAX_WEIGHT
    within w e = grind (arith, nat_tests)
weight_below (w ∷ ws) e (suc k) = weight_below ws (and_parts (nat_le 1 w && nat_le w MAX_WEIGHT) _ e).1 k

pub importance_back : (m : MergeState) (f : ℕ) (x : ℤ) → IsMerging m → x ≡ importance_of m f → to_z w128 (of_z w128 x) ≡ importance_of m f
importance_back m f x known e =
    let weight = weight_below m.rules.weights (rules_facts m.rules known.rules_hold).weights (class_of m.classes f) in
    let fits = weighted_fits (area_of m.arcs f) (slice_index m.rules.weights (class_of m.classes f)) (area_small f m.arcs known.measured known.few_arcs) weight in
    rw e (to_z-of_z w128 (importance_of m f) fits)

-- ---- the two faces of a step

-- the step of the next two faces
pub record HeldPair (r : Merging) (pair : Pair) : Type 0 where
  pub step : IsNextStep (state_of r).rules (state_of r).classes (state_of r).arcs (step_of r pair)
  pub loser : IsLive r pair.loser
  pub winner : IsLive r pair.winner
  pub apart : pair.loser ≢ pair.winner

pub held_pair : (r : Merging) (pair : Pair) → IsRunning r → IsNextPair r pair → HeldPair r pair
held_pair r pair running next =
    let m = state_of r in
    let s = step_of r pair in
    let step = next_step_is m.rules m.classes m.arcs s next.next in
    let numbered = next_step_numbered m.rules m.classes m.arcs s running.slots.known.labelled step in
    record {
      step = step;
      loser = λ e. omega (arith, numbered.loser.0, e);
      winner = λ e. omega (arith, numbered.winner.0, e);
      apart = λ e. numbered.differ (ap (number_in r) e);
    }
