-- What the polygons so far took, with what the rest takes, is what all take, and there is room for the faces of the rest.
use Rattle.std.proofs.Common.{◌≡◌, ◌≤◌, ◌+◌, drop, length, count_by}
use Rattle.tgap_model.specs.declared.limits.TheConstants.{MAX_FACES}
use Rattle.line_forms.specs.Json.{try_fold}
use Rattle.topology_forms.specs.Topology.{has_ring}
use Rattle.topology_forms.specs.Rings.{nothing_taken, polygon_taken}
use Rattle.ring_sides.specs.Taking.{HasSides}
use Rattle.ring_sides.proofs.face.take_polygons.Given as goal

abbrev pub invariant-loop-polygon : goal.invariant-loop-polygon
invariant-loop-polygon l =
    let take = polygon_taken l.arcs l.named in
    record {
      taken : try_fold take l.taken (drop l.polygon-index l.polygons) ≡ try_fold take (nothing_taken l.arcs) l.polygons;
      sides : HasSides (length l.arcs) l.taken;
      few : length l.taken.classes + count_by has_ring (drop l.polygon-index l.polygons) ≤ MAX_FACES;
    }
