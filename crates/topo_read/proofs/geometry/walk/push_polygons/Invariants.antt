use Rattle.std.proofs.Common.{◌≡◌, true}
use Rattle.serde_json.specs.View.{view}
use Rattle.line_forms.specs.Json.{try_fold}
use Rattle.topology_forms.specs.Topology.{kind_of, polygon_read}
use Rattle.topo_read.specs.Walk.{walk_of, are_raw}
use Rattle.topo_read.proofs.geometry.walk.push_polygons.Given as goal

abbrev pub invariant-loop-rings : goal.invariant-loop-rings
invariant-loop-rings l = record {
  read : try_fold (polygon_read l.arcs (kind_of l.property (view l.geometry))) (walk_of l.walk) l.rings-iterator.rest.items
      ≡ try_fold (polygon_read l.arcs (kind_of l.property (view l.geometry))) (walk_of l.fn.walk) l.fn.shapes;
  raw : are_raw l.arcs l.walk.polygons ≡ true;
}
