use Rattle.std.proofs.Common.{◌∙◌, [], List, get_or, subst}
use Rattle.ring_walk.specs.declared.side.Side.{Side}
use Rattle.topo_write.specs.Polygons.{lines_of}
use Rattle.topo_write.specs.Building.{HoldsRing}
use Rattle.std.proofs.lemmas.List.{get_or_default}
use Rattle.topo_write.proofs.Abscissas.{columns_more}
use Rattle.topo_write.proofs.columns.all_columns.Goals as goal

pub loop-place-preserved : goal.loop-place-preserved
loop-place-preserved c =
    let lines = lines_of c.args.edges.now in
    let rings = c.args.rings.now in
    let place = get_or c.args.places.now c.loop-place.place-index 0 in
    columns_more lines rings c.args.places.now c.loop-place.place-index c.loop-place.boxes c.push.new.self c.columns_of.result c.loop-place-test.true c.loop-place.invariant
    (subst (λ (r : List Side). HoldsRing lines r c.columns_of.result) (c.as_slice.ensures ∙ c.index-rings-place.is ∙ get_or_default rings place c.index-rings-place.result [] (c.requires.places c.loop-place.place-index 0 c.loop-place-test.true)) c.columns_of.ensures)
    c.in_ok-push.ensures
