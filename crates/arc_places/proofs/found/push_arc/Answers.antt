use Rattle.std.proofs.Common.{◌∙◌, ◌||◌, ◌&&◌, Bool, eqb, refl, sym, ap}
use Rattle.std.proofs.Math.Bool.{or_assoc}
use Rattle.ring_walk.specs.declared.side.Side.{Side}
use Rattle.ring_walk.specs.declared.side.Way.TheVariants.{Along, Against}
use Rattle.ring_walk.specs.Sides.{side_number}
use Rattle.arc_places.specs.Places.{is_among}
use Rattle.arc_places.specs.Slots.{slot_of}
use Rattle.arc_places.specs.SlotTables.{passes}
use Rattle.arc_places.proofs.FoundSides.{pair_found}
use Rattle.arc_places.proofs.found.push_arc.Goals as goal

pub returns-clause-found : goal.returns-clause-found
returns-clause-found c = λ i.
    let slots = c.args.table.now in
    let sought = c.args.sought.now in
    let k = c.args.arc in
    let is_it : Side → Bool = λ s. eqb (side_number s) i && passes slots sought s in
    let old = is_among i c.args.found.now.items in
    c.in_ok-push_side-2.ensures.found i
    ∙ ap (λ (b : Bool). b || is_it c.turned.result) (c.in_ok-push_side.ensures.found i)
    ∙ ap (λ (s : Side). (old || is_it (record { span = k; way = Along })) || is_it s) c.turned.ensures
    ∙ or_assoc old (is_it (record { span = k; way = Along })) (is_it (record { span = k; way = Against }))
    ∙ ap (λ (b : Bool). old || b) (sym (pair_found slots sought k (slot_of slots k) c.requires refl i))
