use Rattle.std.proofs.Common.{◌≤◌, map, length, sum_by, arith}
use Rattle.std.specs.Prelude.{count_by}
use Rattle.std.proofs.lemmas.List.{length-map}
use Rattle.serde_json.specs.View.{view}
use Rattle.tgap_model.specs.declared.limits.TheConstants.{MAX_ARCS, MAX_POINTS, MAX_FACES}
use Rattle.topology_forms.specs.Topology.{has_ring}
use Rattle.topo_read.proofs.ArcForm.{arcs_read}
use Rattle.topo_read.proofs.MapForm.{raw_map}
use Rattle.topo_read.proofs.read_parts.Goals as goal

pub count_points-requires : goal.count_points-requires
count_points-requires c =
    let parts = c.args.parts.now in
    let read = arcs_read parts.positions.deltas c.in_ok-arcs.arcs (map view parts.arcs.now) c.in_ok-arcs.ensures in
    rw c.as_slice.ensures (omega (arith, read.few, c.requires))

pub read_geometry-requires : goal.read_geometry-requires
read_geometry-requires c =
    let parts = c.args.parts.now in
    let read = arcs_read parts.positions.deltas c.in_ok-arcs.arcs (map view parts.arcs.now) c.in_ok-arcs.ensures in
    record { few = rw c.len.ensures (omega (arith, read.count, length-map parts.arcs.now view, c.in_ok-within_limit.ensures.few)) }

pub returns-clause-form : goal.returns-clause-form
returns-clause-form c =
    let parts = c.args.parts.now in
    let arcs = c.in_ok-arcs.arcs in
    let read = arcs_read parts.positions.deltas arcs (map view parts.arcs.now) c.in_ok-arcs.ensures in
    let few_arcs : length arcs ≤ MAX_ARCS = omega (arith, read.count, length-map parts.arcs.now view, c.in_ok-within_limit.ensures.few) in
    let few_points : sum_by length arcs ≤ MAX_POINTS = rw (← c.as_slice.ensures, ← c.count_points.ensures) c.in_ok-within_limit-2.ensures.few in
    let few_faces : count_by has_ring c.in_ok-polygons.polygons ≤ MAX_FACES = rw (← c.as_slice-2.ensures, ← c.count_faces.ensures) c.in_ok-within_limit-3.ensures.few in
    raw_map parts.positions.transform arcs c.in_ok-polygons.polygons few_arcs few_points read.form few_faces (rw (← c.len.ensures) c.in_ok-polygons.ensures.rings)
