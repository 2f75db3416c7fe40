use Rattle.std.proofs.Common.{◌<◌, ◌∙◌, ◌++◌, pos, int_lt, List, length, map, All, sym, ap, subst, arith}
use Rattle.std.proofs.lemmas.List.Elements.{All-filter}
use Rattle.topo_write.specs.Building.{area_at}
use Rattle.topo_write.specs.Polygons.{Polygon, lines_of}
use Rattle.topo_write.specs.Building.{told}
use Rattle.topo_write.proofs.FaceGroups.{filter_le}
use Rattle.topo_write.proofs.FaceParts.{face_is}
use Rattle.topo_write.proofs.parts.push_face.Goals as goal

pub push_rings-requires-clause-outer : goal.push_rings-requires-clause-outer
push_rings-requires-clause-outer c =
    let areas = c.as_slice-areas.result.now in
    let n = length c.args.rings.now.rings in
    subst (All (λ p. p < n)) (sym (c.deref.ensures.value ∙ c.in_ok-outer.ensures)) (All-filter (λ p. int_lt (pos 0) (area_at areas p)) (λ p. p < n) c.args.places.now c.requires.places)

pub push_rings-requires-clause-few : goal.push_rings-requires-clause-few
push_rings-requires-clause-few c =
    let areas = c.as_slice-areas.result.now in
    omega (arith, filter_le (λ p. int_lt (pos 0) (area_at areas p)) c.args.places.now, ap length (c.deref.ensures.value ∙ c.in_ok-outer.ensures), c.requires.few)

pub push_rings-requires-clause-inner : goal.push_rings-requires-clause-inner
push_rings-requires-clause-inner c =
    let areas = c.as_slice-areas.result.now in
    let n = length c.args.rings.now.rings in
    subst (All (λ p. p < n)) (sym (c.deref-2.ensures.value ∙ c.in_ok-inner.ensures)) (All-filter (λ p. int_lt (area_at areas p) (pos 0)) (λ p. p < n) c.args.places.now c.requires.places)

pub push_rings-requires-clause-small : goal.push_rings-requires-clause-small
push_rings-requires-clause-small c =
    let areas = c.as_slice-areas.result.now in
    omega (arith, filter_le (λ p. int_lt (area_at areas p) (pos 0)) c.args.places.now, ap length (c.deref-2.ensures.value ∙ c.in_ok-inner.ensures), c.requires.few)

pub returns-clause-told : goal.returns-clause-told
returns-clause-told c =
    let rings = c.args.rings.now.rings in
    let lines = lines_of c.args.edges.now in
    c.in_ok-push_rings.ensures.told
    ∙ ap (λ (ps : List Polygon). map (told rings) c.args.parts.now.items ++ ps)
    (face_is lines c.args.row rings c.as_slice-areas.result.now c.args.places.now c.deref.result.now c.deref-2.result.now (c.as_slice-areas.ensures ∙ c.requires.rings.areas) c.requires.places
    (c.deref.ensures.value ∙ c.in_ok-outer.ensures) (c.deref-2.ensures.value ∙ c.in_ok-inner.ensures))
