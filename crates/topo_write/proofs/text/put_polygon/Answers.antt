use Rattle.std.proofs.Common.{◌∙◌, ◌++◌, ◌<◌, codes, decimal, length, map, All, ap, sym, subst}
use Rattle.serde_json.specs.Written.{compact_text}
use Rattle.topo_write.specs.Building.{told}
use Rattle.topo_write.specs.Topology.{list, ring_data}
use Rattle.topo_write.proofs.Texts.{polygon_text, seven, rings_told}
use Rattle.topo_write.proofs.text.put_polygon.Goals as goal

pub put_rings-requires : goal.put_rings-requires
put_rings-requires c = subst (All (λ p. p < length c.args.rings.now)) (sym c.as_slice.ensures) c.requires

pub returns : goal.returns
returns c =
    let rings = c.args.rings.now in
    let part = c.args.part.now in
    seven c.args.out.now (codes "{\"arcs\":") (compact_text (list (map ring_data (told rings part).rings))) (codes ",\"properties\":{\"class\":") (decimal part.row.class) (codes ",\"face\":") (decimal part.row.face)
    (codes "},\"type\":\"Polygon\"}") c.push_slice.new.self c.put_rings.new.out c.push_slice-2.new.self c.put_count.new.out c.push_slice-3.new.self c.put_count-2.new.out c.push_slice-4.new.self
    c.in_ok-push_slice.ensures (c.in_ok-put_rings.ensures ∙ ap (λ z. c.push_slice.new.self ++ z) (rings_told rings part c.as_slice.result.now c.as_slice.ensures)) c.in_ok-push_slice-2.ensures c.in_ok-put_count.ensures c.in_ok-push_slice-3.ensures
    c.in_ok-put_count-2.ensures c.in_ok-push_slice-4.ensures
    ∙ ap (λ z. c.args.out.now ++ z) (sym (polygon_text (told rings part)))
