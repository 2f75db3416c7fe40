use Rattle.std.proofs.Common.{◌∙◌, ◌++◌, codes, map, ap, sym}
use Rattle.serde_json.specs.Written.{compact_text}
use Rattle.topo_write.specs.Building.{told}
use Rattle.topo_write.specs.Polygons.{lines_of}
use Rattle.topo_write.specs.Topology.{list, arc_data, polygon_data, transform_data}
use Rattle.topo_write.proofs.Texts.{whole_text, seven}
use Rattle.topo_write.proofs.text.put_topology.Goals as goal

pub returns : goal.returns
returns c =
    let polygons = map (told c.args.rings.now) c.args.parts.now in
    let lines = lines_of c.args.edges.now in
    let t = c.args.transform in
    seven c.args.out.now (codes "{\"arcs\":") (compact_text (list (map arc_data lines))) (codes ",\"objects\":{\"map\":{\"geometries\":") (compact_text (list (map polygon_data polygons)))
    (codes ",\"type\":\"GeometryCollection\"}},\"transform\":") (compact_text (transform_data t)) (codes ",\"type\":\"Topology\"}")
    c.push_slice.new.self c.put_arcs.new.out c.push_slice-2.new.self c.put_polygons.new.out c.push_slice-3.new.self c.put_transform.new.out c.push_slice-4.new.self
    c.in_ok-push_slice.ensures c.in_ok-put_arcs.ensures c.in_ok-push_slice-2.ensures c.in_ok-put_polygons.ensures c.in_ok-push_slice-3.ensures c.in_ok-put_transform.ensures c.in_ok-push_slice-4.ensures
    ∙ ap (λ z. c.args.out.now ++ z) (sym (whole_text t lines polygons))
