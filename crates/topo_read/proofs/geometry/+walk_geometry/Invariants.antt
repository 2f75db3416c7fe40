use Rattle.std.proofs.Common.{◌≡◌, ◌-◌, map, drop, true}
use Rattle.serde_json.specs.View.{view}
use Rattle.line_forms.specs.Json.{try_fold}
use Rattle.topology_forms.specs.Topology.{geometry_read}
use Rattle.topo_read.specs.Walk.{walk_of, are_raw}
use Rattle.topo_read.proofs.geometry.+walk_geometry.Given as goal

abbrev pub decreases-walk_geometry : goal.decreases-walk_geometry
decreases-walk_geometry l = l.depth

abbrev pub invariant-loop-member : goal.invariant-loop-member
invariant-loop-member l = record {
  read : try_fold (geometry_read (l.depth - 1) l.arcs l.property) (walk_of l.walk) (map view (drop l.member-index l.members))
      ≡ geometry_read l.depth l.arcs l.property (walk_of l.fn.walk) (view l.geometry);
  raw : are_raw l.arcs l.walk.polygons ≡ true;
}
