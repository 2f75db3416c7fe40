-- Slots and the arcs that are there: which number each of them has, and which slot.
use Rattle.std.proofs.Common.{◌≡◌, ◌≢◌, ◌∙◌, ℕ, zero, suc, ◌+◌, ◌<◌, ◌≤◌, Bool, true, false, cond, List, [], ◌∷◌, length, filter, take, set, get_or, refl, sym, ap, subst, arith}
use Rattle.std.proofs.lemmas.Bool.{false≢true}
use Rattle.tgap_model.specs.declared.base.BaseArc.{BaseArc}
use Rattle.tgap_model.specs.Chains.{arc_number}
use Rattle.arc_places.specs.Slots.{arcs_in, is_there, number_of, slot_of, slots_from}

-- the arc of a slot has this number among those that are there
pub record HasNumber (slots : List BaseArc) (i k : ℕ) : Type 0 where
  pub within : k < length (arcs_in slots)
  pub same : arc_number (arcs_in slots) k ≡ arc_number slots i

-- an arc that is there has its number
pub arc_there : (slots : List BaseArc) (i : ℕ) → i < length slots → is_there (arc_number slots i) ≡ true → HasNumber slots i (number_of slots i)
arc_there [] i lt e = absurd (omega arith)
arc_there (a ∷ slots) zero lt e = (let h = by (is_there a) e in record { within = h.0; same = h.1 })
  where
    by : (b : Bool) → b ≡ true → (0 < length (cond b (a ∷ arcs_in slots) (arcs_in slots))) × (arc_number (cond b (a ∷ arcs_in slots) (arcs_in slots)) 0 ≡ a)
    by true f = (omega arith, refl)
    by false f = absurd (false≢true f)
arc_there (a ∷ slots) (suc i) lt e =
    (let rest = arc_there slots i (omega arith) e in let h = by (is_there a) rest.within rest.same in record { within = h.0; same = h.1 })
  where
    front : List BaseArc
    front = filter is_there (take i slots)

    by : (b : Bool) → length front < length (arcs_in slots) → arc_number (arcs_in slots) (length front) ≡ arc_number slots i
        → (length (cond b (a ∷ front) front) < length (cond b (a ∷ arcs_in slots) (arcs_in slots))) × (arc_number (cond b (a ∷ arcs_in slots) (arcs_in slots)) (length (cond b (a ∷ front) front)) ≡ arc_number slots i)
    by true l s = (omega arith, s)
    by false l s = (l, s)

-- where slots are numbered from j on, the one of an arc that is there
pub slot_from_number : (slots : List BaseArc) (j i : ℕ) → i < length slots → is_there (arc_number slots i) ≡ true → get_or (slots_from j slots) (number_of slots i) 0 ≡ j + i
slot_from_number [] j i lt e = absurd (omega arith)
slot_from_number (a ∷ slots) j zero lt e = by (is_there a) e
  where
    by : (b : Bool) → b ≡ true → get_or (cond b (j ∷ slots_from (j + 1) slots) (slots_from (j + 1) slots)) 0 0 ≡ j + 0
    by true f = omega arith
    by false f = absurd (false≢true f)
slot_from_number (a ∷ slots) j (suc i) lt e = by (is_there a) (slot_from_number slots (j + 1) i (omega arith) e)
  where
    front : List BaseArc
    front = filter is_there (take i slots)

    by : (b : Bool) → get_or (slots_from (j + 1) slots) (length front) 0 ≡ (j + 1) + i
        → get_or (cond b (j ∷ slots_from (j + 1) slots) (slots_from (j + 1) slots)) (length (cond b (a ∷ front) front)) 0 ≡ j + suc i
    by true h = h ∙ omega arith
    by false h = h ∙ omega arith

pub slot_again : (slots : List BaseArc) (i : ℕ) → i < length slots → is_there (arc_number slots i) ≡ true → slot_of slots (number_of slots i) ≡ i
slot_again slots i lt e = slot_from_number slots 0 i lt e ∙ omega arith

-- two arcs that are there have two numbers
pub number-inj : (slots : List BaseArc) (i j : ℕ) → i < length slots → is_there (arc_number slots i) ≡ true → j < length slots → is_there (arc_number slots j) ≡ true
    → number_of slots i ≡ number_of slots j → i ≡ j
number-inj slots i j l e m f same = sym (slot_again slots i l e) ∙ ap (slot_of slots) same ∙ slot_again slots j m f

-- the slot of the arc with this number
pub record IsSlotOf (slots : List BaseArc) (k i : ℕ) : Type 0 where
  pub within : i < length slots
  pub there : is_there (arc_number slots i) ≡ true
  pub number : number_of slots i ≡ k

-- there is one for each number
some_slot : (slots : List BaseArc) (k : ℕ) → k < length (arcs_in slots) → (i : ℕ) × IsSlotOf slots k i
some_slot [] k lt = absurd (omega arith)
some_slot (a ∷ slots) k lt = by (is_there a) refl lt (some_slot slots)
  where
    front : ℕ → List BaseArc
    front i = filter is_there (take i slots)

    first : (m : ℕ) (b : Bool) → is_there a ≡ b → b ≡ true → m ≡ 0 → (i : ℕ) × IsSlotOf (a ∷ slots) m i
    first m b e f z = (0, record { within = omega arith; there = e ∙ f; number = sym z })

    after : (m n : ℕ) (i : ℕ) → IsSlotOf slots m i → length (cond (is_there a) (a ∷ front i) (front i)) ≡ n → (i : ℕ) × IsSlotOf (a ∷ slots) n i
    after m n i h e = (suc i, record { within = (let l = h.within in omega arith); there = h.there; number = e })

    counted : (m : ℕ) → is_there a ≡ true → m < length (arcs_in slots) + 1 → ((m : ℕ) → m < length (arcs_in slots) → (i : ℕ) × IsSlotOf slots m i) → (i : ℕ) × IsSlotOf (a ∷ slots) m i
    counted zero e l rest = first 0 (is_there a) refl e refl
    counted (suc m) e l rest =
        let h = rest m (omega arith) in
        after m (suc m) h.0 h.1 (ap (λ (b : Bool). length (cond b (a ∷ front h.0) (front h.0))) e ∙ ap (λ (n : ℕ). suc n) h.1.number)

    by : (b : Bool) → is_there a ≡ b → k < length (cond b (a ∷ arcs_in slots) (arcs_in slots)) → ((m : ℕ) → m < length (arcs_in slots) → (i : ℕ) × IsSlotOf slots m i) → (i : ℕ) × IsSlotOf (a ∷ slots) k i
    by true e l rest = counted k e (omega arith) rest
    by false e l rest =
        let h = rest k l in
        after k k h.0 h.1 (ap (λ (b : Bool). length (cond b (a ∷ front h.0) (front h.0))) e ∙ h.1.number)

pub slot_there : (slots : List BaseArc) (k : ℕ) → k < length (arcs_in slots) → IsSlotOf slots k (slot_of slots k)
slot_there slots k lt =
    let h = some_slot slots k lt in
    subst (IsSlotOf slots k) (sym (ap (slot_of slots) (sym h.1.number) ∙ slot_again slots h.0 h.1.within h.1.there)) h.1

-- two arcs that are there have two slots
pub slot-inj : (slots : List BaseArc) (k m : ℕ) → k < length (arcs_in slots) → m < length (arcs_in slots) → slot_of slots k ≡ slot_of slots m → k ≡ m
slot-inj slots k m l r e = sym (slot_there slots k l).number ∙ ap (number_of slots) e ∙ (slot_there slots m r).number

-- the arc with this number stands in its slot
pub arc_in_slot : (slots : List BaseArc) (k : ℕ) → k < length (arcs_in slots) → arc_number slots (slot_of slots k) ≡ arc_number (arcs_in slots) k
arc_in_slot slots k lt =
    let h = slot_there slots k lt in
    sym (arc_there slots (slot_of slots k) h.within h.there).same ∙ ap (arc_number (arcs_in slots)) h.number

-- no arc is in a slot past the last one, nor in one whose arc is gone
pub none_past : (slots : List BaseArc) (i : ℕ) → length slots ≤ i → (k : ℕ) → k < length (arcs_in slots) → slot_of slots k ≢ i
none_past slots i past k l e = (let h = (slot_there slots k l).within in omega (arith, past, e))

pub none_gone : (slots : List BaseArc) (i : ℕ) → is_there (arc_number slots i) ≡ false → (k : ℕ) → k < length (arcs_in slots) → slot_of slots k ≢ i
none_gone slots i gone k l e = false≢true (sym gone ∙ subst (λ (j : ℕ). is_there (arc_number slots j) ≡ true) e (slot_there slots k l).there)

pub length-slots_from : (slots : List BaseArc) (j : ℕ) → length (slots_from j slots) ≡ length (arcs_in slots)
length-slots_from [] j = refl
length-slots_from (a ∷ slots) j = by (is_there a) (length-slots_from slots (j + 1))
  where
    by : (b : Bool) → length (slots_from (j + 1) slots) ≡ length (arcs_in slots)
        → length (cond b (j ∷ slots_from (j + 1) slots) (slots_from (j + 1) slots)) ≡ length (cond b (a ∷ arcs_in slots) (arcs_in slots))
    by true h = omega arith
    by false h = h

-- ---- an arc that changes

-- an arc that stays there takes the place of the one before it
pub set_there : (slots : List BaseArc) (i : ℕ) (a : BaseArc) → i < length slots → is_there (arc_number slots i) ≡ true → is_there a ≡ true
    → arcs_in (set slots i a) ≡ set (arcs_in slots) (number_of slots i) a
set_there [] i a lt e f = absurd (omega arith)
set_there (b ∷ slots) zero a lt e f =
    ap (λ (t : Bool). cond t (a ∷ arcs_in slots) (arcs_in slots)) f
    ∙ sym (ap (λ (t : Bool). set (cond t (b ∷ arcs_in slots) (arcs_in slots)) 0 a) e)
set_there (b ∷ slots) (suc i) a lt e f = by (is_there b) (set_there slots i a (omega arith) e f)
  where
    front : List BaseArc
    front = filter is_there (take i slots)

    by : (t : Bool) → arcs_in (set slots i a) ≡ set (arcs_in slots) (length front) a
        → cond t (b ∷ arcs_in (set slots i a)) (arcs_in (set slots i a)) ≡ set (cond t (b ∷ arcs_in slots) (arcs_in slots)) (length (cond t (b ∷ front) front)) a
    by true h = ap (λ (arcs : List BaseArc). b ∷ arcs) h
    by false h = h
