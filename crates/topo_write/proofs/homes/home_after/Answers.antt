use Rattle.std.proofs.Common.{◌≡◌, ◌<◌, ◌∙◌, [], ℤ, Bool, true, if◌then◌else◌, List, length, map, get_or, Some, to_z, of_z, sym, ap, arith}
use Rattle.std.specs.Int.{w128}
use Rattle.std.proofs.lemmas.Int.{ints}
use Rattle.std.proofs.lemmas.List.{get_or-map, get_or_default}
use Rattle.ring_walk.specs.declared.side.Side.{Side}
use Rattle.ring_walk.specs.Areas.{are_round, ring_area, ring_segments}
use Rattle.topo_write.specs.declared.home.Home.{Home}
use Rattle.topo_write.specs.Building.{ring_at}
use Rattle.topo_write.specs.Polygons.{lines_of, nearer}
use Rattle.topo_write.proofs.Places.{area_is}
use Rattle.topo_write.proofs.homes.home_after.Goals as goal

pub returns-then-are_round : goal.returns-then-are_round
returns-then-are_round c =
    let lines = lines_of c.args.edges.now in
    let rings = c.args.rings.now in
    let j = c.args.place in
    let p = get_or c.args.outer.now j 0 in
    let os = map (ring_at rings) c.args.outer.now in
    let inside : p < length rings = c.requires.outer j 0 c.requires.place in
    let same : ring_at rings p ≡ ring_at os j = sym (get_or-map (ring_at rings) c.args.outer.now j 0 [] c.requires.place) in
    let here : c.as_slice.result.now ≡ ring_at os j = c.as_slice.ensures ∙ c.index-rings-ring.is ∙ get_or_default rings p c.index-rings-ring.result [] inside ∙ same in
    let round : are_round c.args.probe (ring_segments lines (ring_at os j)) ≡ true = ap (λ (r : List Side). are_round c.args.probe (ring_segments lines r)) (sym here) ∙ sym c.are_round.ensures ∙ c.if-are_round.true in
    let z = c.area_at-area.result in
    let whole : to_z w128 (of_z w128 z) ≡ z = omega (arith, ints) in
    let area : to_z w128 (of_z w128 z) ≡ ring_area lines (ring_at os j) = whole ∙ c.area_at-area.ensures ∙ area_is lines rings c.args.areas.now p c.requires.areas inside ∙ ap (ring_area lines) same in
    ap (λ (h : Home). Some h) (c.nearer.ensures ∙ ap (λ (y : ℤ). nearer c.args.found (record { place = j; area = y })) area)
    ∙ sym (ap (λ (b : Bool). if b then Some (nearer c.args.found (record { place = j; area = ring_area lines (ring_at os j) })) else c.args.found) round)
