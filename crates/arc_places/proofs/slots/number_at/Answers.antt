use Rattle.std.proofs.Common.{◌≡◌, ◌∙◌, ◌<◌, ℕ, List, [], length, get_or, true, sym, ap, subst, arith}
use Rattle.std.proofs.lemmas.List.{get_or_default}
use Rattle.tgap_model.specs.declared.base.BaseArc.{BaseArc}
use Rattle.tgap_model.specs.Chains.{arc_number}
use Rattle.arc_places.specs.Slots.{arcs_in, is_there, slot_of}
use Rattle.arc_places.specs.Numbers.{AreNumbers}
use Rattle.arc_places.proofs.SlotNumbers.{arc_there, none_gone, none_past, slot_again}
use Rattle.arc_places.proofs.slots.number_at.Goals as goal

-- the arc of the slot is that of its number
arc_is : (slots : List BaseArc) (slot : ℕ) (arc : BaseArc) → slot < length slots → arc ≡ get_or slots slot arc → arc ≡ arc_number slots slot
arc_is slots slot arc l is = is ∙ get_or_default slots slot arc (record { left = 0; right = 0; points = [] }) l

number_within : (slots : List BaseArc) (numbers : List ℕ) (slot : ℕ) → AreNumbers slots numbers → slot < length slots → is_there (arc_number slots slot) ≡ true → get_or numbers slot 0 < length (arcs_in slots)
number_within slots numbers slot h l there = subst (λ (k : ℕ). k < length (arcs_in slots)) (sym (h.each slot 0 l)) (arc_there slots slot l there).within

pub returns-then-slot-slots-clause-none : goal.returns-then-slot-slots-clause-none
returns-then-slot-slots-clause-none c = none_past c.args.slots.now c.args.slot c.if-slot-slots.true

pub overflow_cast-result : goal.overflow_cast-result
overflow_cast-result c =
    let l = c.if-slot-slots.false in
    let there : is_there (arc_number c.args.slots.now c.args.slot) ≡ true =
    ap (λ (a : BaseArc). is_there a) (sym (arc_is c.args.slots.now c.args.slot c.index-slots-slot.result l c.index-slots-slot.is)) ∙ sym c.is_there.ensures ∙ c.if-is_there.true in
    let within = number_within c.args.slots.now c.args.numbers.now c.args.slot c.requires.numbers l there in
    omega (arith, c.requires.few)

pub returns-then-is_there : goal.returns-then-is_there
returns-then-is_there c =
    let l = c.if-slot-slots.false in
    let there : is_there (arc_number c.args.slots.now c.args.slot) ≡ true =
    ap (λ (a : BaseArc). is_there a) (sym (arc_is c.args.slots.now c.args.slot c.index-slots-slot.result l c.index-slots-slot.is)) ∙ sym c.is_there.ensures ∙ c.if-is_there.true in
    record {
      within = number_within c.args.slots.now c.args.numbers.now c.args.slot c.requires.numbers l there;
      found = ap (slot_of c.args.slots.now) (c.requires.numbers.each c.args.slot 0 l) ∙ slot_again c.args.slots.now c.args.slot l there;
      none = tt;
    }

pub returns-else-is_there-clause-none : goal.returns-else-is_there-clause-none
returns-else-is_there-clause-none c =
    none_gone c.args.slots.now c.args.slot
    (ap (λ (a : BaseArc). is_there a) (sym (arc_is c.args.slots.now c.args.slot c.index-slots-slot.result c.if-slot-slots.false c.index-slots-slot.is)) ∙ sym c.is_there.ensures ∙ c.if-is_there.false)
