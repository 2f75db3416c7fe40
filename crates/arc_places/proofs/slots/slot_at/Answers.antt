use Rattle.std.proofs.Common.{◌≡◌, ◌∙◌, ◌<◌, ℕ, List, get_or, length, sym, ap, subst, arith}
use Rattle.arc_places.specs.Slots.{arcs_in, slot_of}
use Rattle.arc_places.proofs.SlotNumbers.{length-slots_from, slot_there}
use Rattle.arc_places.proofs.slots.slot_at.Goals as goal

pub bounds-there-arc : goal.bounds-there-arc
bounds-there-arc c =
    let long : length c.args.there.now ≡ length (arcs_in c.args.slots.now) = ap length c.requires.there ∙ length-slots_from c.args.slots.now 0 in
    omega (arith, c.requires.arc)

pub returns : goal.returns
returns c =
    let same : get_or c.args.there.now c.args.arc 0 ≡ slot_of c.args.slots.now c.args.arc = ap (λ (xs : List ℕ). get_or xs c.args.arc 0) c.requires.there in
    record {
      slot = same;
      within = subst (λ (i : ℕ). i < length c.args.slots.now) (sym same) (slot_there c.args.slots.now c.args.arc c.requires.arc).within;
    }
