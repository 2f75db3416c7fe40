use Rattle.std.proofs.Common.{◌≡◌, ◌∙◌, ◌<◌, [], ℕ, pos, length, refl, sym, ap, Some}
use Rattle.std.specs.Prelude.{option_map}
use Rattle.std.specs.Ordering.{int_eq}
use Rattle.std.proofs.lemmas.List.{get_or_default}
use Rattle.topo_write.specs.Building.{area_at, ring_at}
use Rattle.topo_write.specs.Polygons.{lines_of, ring_key}
use Rattle.topo_write.proofs.Places.{find_holds, flat_else, flat_here}
use Rattle.topo_write.proofs.RingAreas.{ring_here}
use Rattle.topo_write.proofs.flat.flat_key.Goals as goal

pub bounds-rings-place : goal.bounds-rings-place
bounds-rings-place c =
    find_holds (λ p. int_eq (area_at c.args.areas.now p) (pos 0)) (λ p. p < length c.args.rings.now) c.args.places.now c.in-Some.place (sym c.in-Some.ensures) c.requires.places

pub ring_key-requires : goal.ring_key-requires
ring_key-requires c =
    let inside = find_holds (λ p. int_eq (area_at c.args.areas.now p) (pos 0)) (λ p. p < length c.args.rings.now) c.args.places.now c.in-Some.place (sym c.in-Some.ensures) c.requires.places in
    ring_here (length c.args.edges.now) c.args.rings.now c.in-Some.place c.index-rings-place.result c.as_slice.result.now (length c.args.edges.now) c.requires.rings inside c.index-rings-place.is c.as_slice.ensures refl

pub returns-in-Some : goal.returns-in-Some
returns-in-Some c =
    let rings = c.args.rings.now in
    let place = c.in-Some.place in
    let edges = c.args.edges.now in
    let inside = find_holds (λ p. int_eq (area_at c.args.areas.now p) (pos 0)) (λ p. p < length c.args.rings.now) c.args.places.now c.in-Some.place (sym c.in-Some.ensures) c.requires.places in
    let here : c.as_slice.result.now ≡ ring_at rings place = c.as_slice.ensures ∙ c.index-rings-place.is ∙ get_or_default rings place c.index-rings-place.result [] inside in
    ap (λ (k : ℕ). Some k) (c.ring_key.ensures ∙ ap (ring_key edges) here)
    ∙ sym (ap (option_map (ring_key edges)) (flat_here (lines_of edges) rings c.args.areas.now c.args.places.now place c.requires.areas c.requires.places c.in-Some.ensures))

pub returns-then-has_outer : goal.returns-then-has_outer
returns-then-has_outer c =
    sym (ap (option_map (ring_key c.args.edges.now)) (flat_else (lines_of c.args.edges.now) c.args.rings.now c.args.areas.now c.args.places.now _ c.requires.areas c.requires.places c.in_default.ensures (sym c.has_outer.ensures ∙ c.if-has_outer.true)))

pub returns-else-has_outer : goal.returns-else-has_outer
returns-else-has_outer c =
    ap (λ (k : ℕ). Some k) c.first_key.ensures
    ∙ sym (ap (option_map (ring_key c.args.edges.now)) (flat_else (lines_of c.args.edges.now) c.args.rings.now c.args.areas.now c.args.places.now _ c.requires.areas c.requires.places c.in_default.ensures (sym c.has_outer.ensures ∙ c.if-has_outer.false)))
