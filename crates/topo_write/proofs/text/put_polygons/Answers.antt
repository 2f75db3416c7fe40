use Rattle.std.proofs.Common.{◌≡◌, ◌∙◌, ◌++◌, ◌<◌, map, length, All, sym, ap, subst, arith}
use Rattle.std.proofs.lemmas.List.{get_or-map, length-map}
use Rattle.serde_json.specs.Data.{Data, null}
use Rattle.serde_json.specs.Written.{compact_text}
use Rattle.topo_write.specs.declared.part.Part.{Part}
use Rattle.topo_write.specs.Polygons.{Polygon}
use Rattle.topo_write.specs.Building.{told}
use Rattle.topo_write.specs.Topology.{polygon_data}
use Rattle.topo_write.proofs.Commas.{written_more, written_all}
use Rattle.topo_write.proofs.text.put_polygons.Goals as goal

pub put_polygon-requires : goal.put_polygon-requires
put_polygon-requires c = subst (λ (p : Part). All (λ q. q < length c.args.rings.now) p.rings) (sym c.index-parts-place.is) (c.requires c.loop-place.place c.index-parts-place.result c.loop-place-test.true)

pub loop-place-preserved : goal.loop-place-preserved
loop-place-preserved c =
    let rings = c.args.rings.now in
    let parts = c.args.parts.now in
    let i = c.loop-place.place in
    let p = c.index-parts-place.result in
    let long : length (map polygon_data (map (told rings) parts)) ≡ length parts = omega (arith, length-map {A = Part} {B = Polygon}, length-map {A = Polygon} {B = Data}) in
    let short : i < length (map (told rings) parts) = omega (arith, c.loop-place-test.true, length-map {A = Part} {B = Polygon}) in
    let read = get_or-map polygon_data (map (told rings) parts) i (told rings p) null short ∙ ap polygon_data (get_or-map (told rings) parts i p (told rings p) c.loop-place-test.true ∙ ap (told rings) (sym c.index-parts-place.is)) in
    written_more c.args.out.now c.loop-place.out c.put_comma.new.out c.put_polygon.new.out (map polygon_data (map (told rings) parts)) i null (omega (arith, c.loop-place-test.true, long))
    c.loop-place.invariant c.in_ok-put_comma.ensures (c.in_ok-put_polygon.ensures ∙ ap (λ d. c.put_comma.new.out ++ compact_text d) (sym read))

pub returns : goal.returns
returns c =
    let long : length (map polygon_data (map (told c.args.rings.now) c.args.parts.now)) ≡ length c.args.parts.now = omega (arith, length-map {A = Part} {B = Polygon}, length-map {A = Polygon} {B = Data}) in
    written_all c.args.out.now c.loop-place.out c.push_slice-2.new.self (map polygon_data (map (told c.args.rings.now) c.args.parts.now)) c.loop-place.place (omega (arith, c.loop-place-test.false, long)) c.loop-place.invariant c.in_ok-push_slice-2.ensures
