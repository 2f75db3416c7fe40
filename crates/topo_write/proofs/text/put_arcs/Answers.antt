use Rattle.std.proofs.Common.{◌≡◌, ◌∙◌, ◌++◌, ◌<◌, List, [], map, length, All, sym, ap, subst, arith}
use Rattle.std.proofs.lemmas.List.{get_or-map, length-map}
use Rattle.serde_json.specs.Data.{Data, null}
use Rattle.serde_json.specs.Written.{compact_text}
use Rattle.tgap_model.specs.declared.geometry.Point.{Point}
use Rattle.tgap_model.specs.declared.slice.Edge.{Edge}
use Rattle.tgap_model.specs.Bounds.{IsNear}
use Rattle.topo_write.specs.Polygons.{lines_of}
use Rattle.topo_write.specs.Topology.{arc_data}
use Rattle.topo_write.proofs.Commas.{written_more, written_all}
use Rattle.topo_write.proofs.text.put_arcs.Goals as goal

pub put_arc-requires : goal.put_arc-requires
put_arc-requires c =
    let e = c.index-edges-place.result in
    let h = c.requires c.loop-place.place e c.loop-place-test.true in
    subst (All IsNear) (sym c.as_slice.ensures) h.near

pub loop-place-preserved : goal.loop-place-preserved
loop-place-preserved c =
    let edges = c.args.edges.now in
    let i = c.loop-place.place in
    let e = c.index-edges-place.result in
    let long : length (map arc_data (lines_of edges)) ≡ length edges = omega (arith, length-map {A = Edge} {B = List Point}, length-map {A = List Point} {B = Data}) in
    let short : i < length (lines_of edges) = omega (arith, c.loop-place-test.true, length-map {A = Edge} {B = List Point}) in
    let read = get_or-map arc_data (lines_of edges) i [] null short ∙ ap arc_data (get_or-map (λ (f : Edge). f.points) edges i e [] c.loop-place-test.true) in
    written_more c.args.out.now c.loop-place.out c.put_comma.new.out c.put_arc.new.out (map arc_data (lines_of edges)) i null (omega (arith, c.loop-place-test.true, long))
    c.loop-place.invariant c.in_ok-put_comma.ensures (c.in_ok-put_arc.ensures ∙ ap (λ ps. c.put_comma.new.out ++ compact_text (arc_data ps)) c.as_slice.ensures ∙ ap (λ d. c.put_comma.new.out ++ compact_text d) (sym read))

pub returns : goal.returns
returns c =
    let long : length (map arc_data (lines_of c.args.edges.now)) ≡ length c.args.edges.now = omega (arith, length-map {A = Edge} {B = List Point}, length-map {A = List Point} {B = Data}) in
    written_all c.args.out.now c.loop-place.out c.push_slice-2.new.self (map arc_data (lines_of c.args.edges.now)) c.loop-place.place (omega (arith, c.loop-place-test.false, long)) c.loop-place.invariant c.in_ok-push_slice-2.ensures
