use Rattle.std.proofs.Common.{◌<◌, length, map, All, sym, ap, subst, arith}
use Rattle.std.specs.List.{range_with_len}
use Rattle.std.proofs.lemmas.List.Elements.{All-append}
use Rattle.topo_write.specs.Building.{AreHeld, HasPlaces, part_at}
use Rattle.topo_write.specs.Polygons.{lines_of}
use Rattle.topo_write.proofs.FaceParts.{parts_within, pushed_told}
use Rattle.topo_write.proofs.parts.push_rings.Goals as goal

pub push_parts-requires-clause-each : goal.push_parts-requires-clause-each
push_parts-requires-clause-each c = omega (arith, c.in_ok-held.ensures.count, ap length c.deref.ensures.value)

pub push_parts-requires-clause-within : goal.push_parts-requires-clause-within
push_parts-requires-clause-within c = subst (All (All (λ k. k < length c.args.inner.now))) (sym c.deref.ensures.value) c.in_ok-held.ensures.within

pub returns-clause-told : goal.returns-clause-told
returns-clause-told c =
    let rings = c.args.rings.now.rings in
    pushed_told (lines_of c.args.edges.now) c.args.row rings c.args.outer.now c.args.inner.now c.deref.result.now c.args.parts.now.items c.push_parts.new.parts.items
    (subst (AreHeld (lines_of c.args.edges.now) rings c.args.outer.now c.args.inner.now) (sym c.deref.ensures.value) c.in_ok-held.ensures) c.in_ok-push_parts.ensures

pub returns-clause-within : goal.returns-clause-within
returns-clause-within c = λ before.
    let n = length c.args.rings.now.rings in
    let new = map (part_at c.args.row c.args.outer.now c.args.inner.now c.deref.result.now) (range_with_len 0 (length c.args.outer.now)) in
    subst (All (HasPlaces n)) (sym c.in_ok-push_parts.ensures)
    (All-append (HasPlaces n) c.args.parts.now.items new before
    (parts_within n c.args.row c.args.outer.now c.args.inner.now c.deref.result.now c.requires.outer c.requires.inner
    (subst (All (All (λ k. k < length c.args.inner.now))) (sym c.deref.ensures.value) c.in_ok-held.ensures.within)
    (omega (arith, c.in_ok-held.ensures.count, ap length c.deref.ensures.value))))
