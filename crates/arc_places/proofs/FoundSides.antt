-- The sides that are found in the slots that are listed.
use Rattle.std.proofs.Common.{◌≡◌, ◌≢◌, ◌∙◌, ℕ, ◌*◌, ◌<◌, nat_lt, Bool, true, false, ◌&&◌, ◌||◌, eqb, List, length, refl, sym, ap, subst}
use Rattle.std.specs.List.{list_any}
use Rattle.std.proofs.lemmas.Bool.{false≢true, and_from, and_parts, eqb-true, eq-eqb, ltb-true, lt-ltb}
use Rattle.tgap_model.specs.declared.base.BaseArc.{BaseArc}
use Rattle.ring_walk.specs.declared.side.Side.{Side}
use Rattle.ring_walk.specs.declared.side.Way.{Way}
use Rattle.ring_walk.specs.declared.side.Way.TheVariants.{Along, Against}
use Rattle.ring_walk.specs.Sides.{numbered, side_number}
use Rattle.ring_walk.proofs.SideNumbers.{number_within, numbered-side_number, numbered_within, side_number-numbered}
use Rattle.face_cuts.proofs.Cases.{by_test, not_held, or_left, or_right}
use Rattle.arc_places.specs.declared.sought.Sought.{Sought}
use Rattle.arc_places.specs.Slots.{arcs_in, slot_of}
use Rattle.arc_places.specs.SlotTables.{AreListed, is_found, passes}
use Rattle.arc_places.proofs.Listed.{listed_passes, some_listed}
use Rattle.arc_places.proofs.SlotNumbers.{slot-inj}

-- two tests of which each holds where the other does
pub same_test : (a b : Bool) → (a ≡ true → b ≡ true) → (b ≡ true → a ≡ true) → a ≡ b
same_test a b to from = by_test a (λ t. t ∙ sym (to t)) (λ f. f ∙ sym (not_held b (λ e. false≢true (sym f ∙ from e))))

module _ (slots : List BaseArc) (sought : Sought) where
  abbrev n : ℕ
  n = length (arcs_in slots)

  -- the parts of the test
  pub parts_of : {P : Type 0} (i slot : ℕ) → is_found slots sought i slot ≡ true
      → ((numbered i).span < n → slot_of slots (numbered i).span ≡ slot → passes slots sought (numbered i) ≡ true → P) → P
  parts_of i slot e use_them =
      let s = numbered i in
      let a = and_parts (nat_lt s.span n && eqb (slot_of slots s.span) slot) (passes slots sought s) e in
      let b = and_parts (nat_lt s.span n) (eqb (slot_of slots s.span) slot) a.0 in
      use_them (ltb-true s.span n b.0) (eqb-true (slot_of slots s.span) slot b.1) a.1

  pub found_from : (i slot : ℕ) → (numbered i).span < n → slot_of slots (numbered i).span ≡ slot → passes slots sought (numbered i) ≡ true → is_found slots sought i slot ≡ true
  found_from i slot l e p =
      let s = numbered i in
      and_from (nat_lt s.span n && eqb (slot_of slots s.span) slot) (passes slots sought s)
      (and_from (nat_lt s.span n) (eqb (slot_of slots s.span) slot) (lt-ltb s.span n l) (eq-eqb (slot_of slots s.span) slot e)) p

  -- in a slot without an arc there is none
  pub none_found : (slot : ℕ) → ((k : ℕ) → k < n → slot_of slots k ≢ slot) → (i : ℕ) → is_found slots sought i slot ≡ false
  none_found slot none i = not_held (is_found slots sought i slot) (λ e. parts_of i slot e (λ l same p. none (numbered i).span l same))

  abbrev side_by : ℕ → Way → Side
  side_by k w = record { span = k; way = w }

  abbrev is_it : ℕ → Side → Bool
  is_it i s = eqb (side_number s) i && passes slots sought s

  -- in the slot of an arc the sides of the arc are found
  pub pair_found : (k slot : ℕ) → k < n → slot_of slots k ≡ slot → (i : ℕ) → is_found slots sought i slot ≡ (is_it i (side_by k Along) || is_it i (side_by k Against))
  pair_found k slot l e i =
      same_test (is_found slots sought i slot) (is_it i (side_by k Along) || is_it i (side_by k Against))
      (λ t. parts_of i slot t (λ m same p.
      let is : (numbered i).span ≡ k = slot-inj slots (numbered i).span k m l (same ∙ sym e) in
      let side : numbered i ≡ side_by k (numbered i).way = ap (λ (j : ℕ). side_by j (numbered i).way) is in
      by_way (numbered i).way (ap side_number (sym side) ∙ side_number-numbered i) (ap (passes slots sought) (sym side) ∙ p)))
      (λ t. by_test (is_it i (side_by k Along))
      (λ a. is_one (side_by k Along) refl a)
      (λ b. is_one (side_by k Against) refl (sym (ap (λ (c : Bool). c || is_it i (side_by k Against)) b) ∙ t)))
    where
      by_way : (w : Way) → side_number (side_by k w) ≡ i → passes slots sought (side_by k w) ≡ true → (is_it i (side_by k Along) || is_it i (side_by k Against)) ≡ true
      by_way Along number p = or_left (is_it i (side_by k Along)) (is_it i (side_by k Against)) (and_from (eqb (side_number (side_by k Along)) i) (passes slots sought (side_by k Along)) (eq-eqb (side_number (side_by k Along)) i number) p)
      by_way Against number p = or_right (is_it i (side_by k Along)) (is_it i (side_by k Against)) (and_from (eqb (side_number (side_by k Against)) i) (passes slots sought (side_by k Against)) (eq-eqb (side_number (side_by k Against)) i number) p)

      is_one : (s : Side) → s.span ≡ k → is_it i s ≡ true → is_found slots sought i slot ≡ true
      is_one s at t =
          let a = and_parts (eqb (side_number s) i) (passes slots sought s) t in
          let side : numbered i ≡ s = ap numbered (sym (eqb-true (side_number s) i a.0)) ∙ numbered-side_number s in
          found_from i slot (subst (λ (j : ℕ). j < n) (sym (ap (λ (u : Side). u.span) side ∙ at)) l) (ap (λ (u : Side). slot_of slots u.span) side ∙ ap (slot_of slots) at ∙ e)
          (ap (passes slots sought) side ∙ a.1)

  -- in all slots that are listed all are found
  pub all_found : (numbers : List ℕ) → AreListed slots numbers sought → (i : ℕ) → list_any (is_found slots sought i) numbers ≡ (nat_lt i (2 * n) && passes slots sought (numbered i))
  all_found numbers listed i =
      same_test (list_any (is_found slots sought i) numbers) (nat_lt i (2 * n) && passes slots sought (numbered i))
      (λ t. some_listed (is_found slots sought i) numbers t (λ slot e. parts_of i slot e (λ l same p.
      and_from (nat_lt i (2 * n)) (passes slots sought (numbered i))
      (lt-ltb i (2 * n) (subst (λ (j : ℕ). j < 2 * n) (side_number-numbered i) (number_within n (numbered i) l))) p)))
      (λ t.
      let a = and_parts (nat_lt i (2 * n)) (passes slots sought (numbered i)) t in
      let l = numbered_within n i (ltb-true i (2 * n) a.0) in
      listed_passes (is_found slots sought i) numbers (slot_of slots (numbered i).span) (listed (numbered i).span (numbered i).way l a.1) (found_from i (slot_of slots (numbered i).span) l refl a.1))
