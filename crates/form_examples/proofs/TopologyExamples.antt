-- Topologies that are read with their rules, and the first faults of others, computed from the definitions.
use Rattle.std.proofs.Common.{◌≡◌, refl, [], ◌∷◌, Ok, Err, codes, pos, negsuc}
use Rattle.std.specs.Fmt.{digits}
use Rattle.std.specs.Str.{is_utf8, chars}
use Rattle.serde_json.proofs.OnLiterals.{serde_json_on_literals}
use Rattle.tgap_model.specs.declared.fault.LimitKind.TheVariants.{Classes, Faces, Arcs, Points}
use Rattle.tgap_model.specs.declared.fault.MapFault.TheVariants.{NotJson, Shape, NoObject, ManyObjects, NotWhole, OutOfRange, ArcShort, ArcIndex, Limit, RingOpen, RingFlat, SideTaken, SameSides, BadRules}
use Rattle.tgap_model.specs.Base.{BaseMap, is_transform}
use Rattle.line_forms.specs.Json.{tree}
use Rattle.map_forms.specs.RulesFile.{rules_of, named_rules}
use Rattle.topology_forms.specs.Topology.{topology, topology_of, geometry_read, polygon_read, ring_read, index_read, arc_read, position_read}
use Rattle.topology_forms.specs.Rings.{topology_base, based, face_taken, ring_taken, side_taken}
use Rattle.map_laws.proofs.Examples.{two_squares}

-- two squares, of two classes
abbrev two_kinds : BaseMap
two_kinds = record {
  transform = two_squares.transform;
  classes = 0 ∷ 1 ∷ [];
  rules = record { ratio = 16; weights = 1 ∷ 1 ∷ []; compat = 1 ∷ 1 ∷ 1 ∷ 1 ∷ [] };
  arcs = two_squares.arcs;
}

-- two squares: delta positions, a collapsed arc, a reversed index, polygons of several, and a geometry that is null
squares : topology_base (codes "{\"type\":\"Topology\",\"transform\":{\"scale\":[0.0001,0.0001],\"translate\":[5.5,52.25]},\"bbox\":[5.5,52.25,5.503,52.253],\"objects\":{\"land\":{\"type\":\"GeometryCollection\",\"geometries\":[{\"type\":\"Polygon\",\"arcs\":[[0,2]],\"properties\":{\"kind\":\"field\"}},{\"type\":\"MultiPolygon\",\"arcs\":[[[1,-3]],[[3]]],\"properties\":{\"kind\":\"wood\"}},{\"type\":null}]}},\"arcs\":[[[10,10],[-10,0],[0,-10],[10,0]],[[10,0],[10,0],[0,10],[-10,0]],[[10,0],[0,10]],[[30,30],[0,0]]]}") (codes "land") (codes "{\"property\":\"kind\",\"classes\":[[\"field\",1],[\"wood\",1]],\"default\":0,\"compat\":[[1,1],[1,1]],\"ratio\":16}") ≡ Ok two_kinds
unfolding topology_base rules_of named_rules topology topology_of geometry_read polygon_read ring_read index_read arc_read position_read based face_taken ring_taken side_taken tree serde_json_on_literals is_utf8 chars is_transform digits
squares = refl

-- the only object
only_object : topology_base (codes "{\"type\":\"Topology\",\"transform\":{\"scale\":[0.0001,0.0001],\"translate\":[5.5,52.25]},\"bbox\":[5.5,52.25,5.503,52.253],\"objects\":{\"land\":{\"type\":\"GeometryCollection\",\"geometries\":[{\"type\":\"Polygon\",\"arcs\":[[0,2]],\"properties\":{\"kind\":\"field\"}},{\"type\":\"MultiPolygon\",\"arcs\":[[[1,-3]],[[3]]],\"properties\":{\"kind\":\"wood\"}},{\"type\":null}]}},\"arcs\":[[[10,10],[-10,0],[0,-10],[10,0]],[[10,0],[10,0],[0,10],[-10,0]],[[10,0],[0,10]],[[30,30],[0,0]]]}") (codes "-") (codes "{\"property\":\"kind\",\"classes\":[[\"field\",1],[\"wood\",1]],\"default\":0,\"compat\":[[1,1],[1,1]],\"ratio\":16}") ≡ Ok two_kinds
unfolding topology_base rules_of named_rules topology topology_of geometry_read polygon_read ring_read index_read arc_read position_read based face_taken ring_taken side_taken tree serde_json_on_literals is_utf8 chars is_transform digits
only_object = refl

-- two rings have the collapsed arc among theirs
collapsed_in_rings : topology_base (codes "{\"type\":\"Topology\",\"transform\":{\"scale\":[0.0001,0.0001],\"translate\":[5.5,52.25]},\"bbox\":[5.5,52.25,5.503,52.253],\"objects\":{\"land\":{\"type\":\"GeometryCollection\",\"geometries\":[{\"type\":\"Polygon\",\"arcs\":[[0,2,3]],\"properties\":{\"kind\":\"field\"}},{\"type\":\"MultiPolygon\",\"arcs\":[[[1,-4,-3]],[[3]]],\"properties\":{\"kind\":\"wood\"}},{\"type\":null}]}},\"arcs\":[[[10,10],[-10,0],[0,-10],[10,0]],[[10,0],[10,0],[0,10],[-10,0]],[[10,0],[0,10]],[[10,10],[0,0]]]}") (codes "land") (codes "{\"property\":\"kind\",\"classes\":[[\"field\",1],[\"wood\",1]],\"default\":0,\"compat\":[[1,1],[1,1]],\"ratio\":16}") ≡ Ok two_kinds
unfolding topology_base rules_of named_rules topology topology_of geometry_read polygon_read ring_read index_read arc_read position_read based face_taken ring_taken side_taken tree serde_json_on_literals is_utf8 chars is_transform digits
collapsed_in_rings = refl

-- a position that is no whole number
fraction : topology_base (codes "{\"type\":\"Topology\",\"bbox\":[5.5,52.25,5.503,52.253],\"objects\":{\"land\":{\"type\":\"GeometryCollection\",\"geometries\":[{\"type\":\"Polygon\",\"arcs\":[[0,2]],\"properties\":{\"kind\":\"field\"}},{\"type\":\"MultiPolygon\",\"arcs\":[[[1,-3]],[[3]]],\"properties\":{\"kind\":\"wood\"}},{\"type\":null}]}},\"arcs\":[[[0.5,10],[-10,0],[0,-10],[10,0]],[[10,0],[10,0],[0,10],[-10,0]],[[10,0],[0,10]],[[30,30],[0,0]]]}") (codes "land") (codes "{\"property\":\"kind\",\"classes\":[[\"field\",1],[\"wood\",1]],\"default\":0,\"compat\":[[1,1],[1,1]],\"ratio\":16}") ≡ Err (NotWhole 0 0)
unfolding topology_base rules_of named_rules topology topology_of geometry_read polygon_read ring_read index_read arc_read position_read based face_taken ring_taken side_taken tree serde_json_on_literals is_utf8 chars is_transform digits
fraction = refl

-- an index that names no arc
no_such_arc : topology_base (codes "{\"type\":\"Topology\",\"transform\":{\"scale\":[0.0001,0.0001],\"translate\":[5.5,52.25]},\"bbox\":[5.5,52.25,5.503,52.253],\"objects\":{\"land\":{\"type\":\"GeometryCollection\",\"geometries\":[{\"type\":\"Polygon\",\"arcs\":[[4]],\"properties\":{\"kind\":\"field\"}},{\"type\":\"MultiPolygon\",\"arcs\":[[[1,-3]],[[3]]],\"properties\":{\"kind\":\"wood\"}},{\"type\":null}]}},\"arcs\":[[[10,10],[-10,0],[0,-10],[10,0]],[[10,0],[10,0],[0,10],[-10,0]],[[10,0],[0,10]],[[30,30],[0,0]]]}") (codes "land") (codes "{\"property\":\"kind\",\"classes\":[[\"field\",1],[\"wood\",1]],\"default\":0,\"compat\":[[1,1],[1,1]],\"ratio\":16}") ≡ Err (ArcIndex 0 0 (pos 4))
unfolding topology_base rules_of named_rules topology topology_of geometry_read polygon_read ring_read index_read arc_read position_read based face_taken ring_taken side_taken tree serde_json_on_literals is_utf8 chars is_transform digits
no_such_arc = refl

-- no JSON
no_json : topology_base (codes "{\"type\":\"Topology\",\"transform\":{\"scale\":[0.0001,0.0001],\"translate\":[5.5,52.25]},\"bbox\":[5.5,52.25,5.503,52.253],\"objects\":{\"land\":{\"type\":\"GeometryCollection\",\"geometries\":[{\"type\":\"Polygon\",\"arcs\":[[0,2]],\"properties\":{\"kind\":\"field\"}},{\"type\":\"MultiPolygon\",\"arcs\":[[[1,-3]],[[3]]],\"properties\":{\"kind\":\"wood\"}},{\"type\":null}]}},\"arcs\":[[[10,10],[-10,0],[0,-10],[10,0]],[[10,0],[10,0],[0,10],[-10,0]],[[10,0],[0,10]],[[30,30],[0,0]]]") (codes "land") (codes "{\"property\":\"kind\",\"classes\":[[\"field\",1],[\"wood\",1]],\"default\":0,\"compat\":[[1,1],[1,1]],\"ratio\":16}") ≡ Err NotJson
unfolding topology_base rules_of named_rules topology topology_of geometry_read polygon_read ring_read index_read arc_read position_read based face_taken ring_taken side_taken tree serde_json_on_literals is_utf8 chars is_transform digits
no_json = refl

-- an arc of one position
short_arc : topology_base (codes "{\"type\":\"Topology\",\"transform\":{\"scale\":[0.0001,0.0001],\"translate\":[5.5,52.25]},\"bbox\":[5.5,52.25,5.503,52.253],\"objects\":{\"land\":{\"type\":\"GeometryCollection\",\"geometries\":[{\"type\":\"Polygon\",\"arcs\":[[0,2]],\"properties\":{\"kind\":\"field\"}},{\"type\":\"MultiPolygon\",\"arcs\":[[[1,-3]],[[3]]],\"properties\":{\"kind\":\"wood\"}},{\"type\":null}]}},\"arcs\":[[[10,10],[-10,0],[0,-10],[10,0]],[[10,0],[10,0],[0,10],[-10,0]],[[10,0]],[[30,30],[0,0]]]}") (codes "land") (codes "{\"property\":\"kind\",\"classes\":[[\"field\",1],[\"wood\",1]],\"default\":0,\"compat\":[[1,1],[1,1]],\"ratio\":16}") ≡ Err (ArcShort 2)
unfolding topology_base rules_of named_rules topology topology_of geometry_read polygon_read ring_read index_read arc_read position_read based face_taken ring_taken side_taken tree serde_json_on_literals is_utf8 chars is_transform digits
short_arc = refl

-- a ring that is open
open_ring : topology_base (codes "{\"type\":\"Topology\",\"transform\":{\"scale\":[0.0001,0.0001],\"translate\":[5.5,52.25]},\"bbox\":[5.5,52.25,5.503,52.253],\"objects\":{\"land\":{\"type\":\"GeometryCollection\",\"geometries\":[{\"type\":\"Polygon\",\"arcs\":[[0]],\"properties\":{\"kind\":\"field\"}},{\"type\":\"MultiPolygon\",\"arcs\":[[[1,-3]],[[3]]],\"properties\":{\"kind\":\"wood\"}},{\"type\":null}]}},\"arcs\":[[[10,10],[-10,0],[0,-10],[10,0]],[[10,0],[10,0],[0,10],[-10,0]],[[10,0],[0,10]],[[30,30],[0,0]]]}") (codes "land") (codes "{\"property\":\"kind\",\"classes\":[[\"field\",1],[\"wood\",1]],\"default\":0,\"compat\":[[1,1],[1,1]],\"ratio\":16}") ≡ Err (RingOpen 0 0)
unfolding topology_base rules_of named_rules topology topology_of geometry_read polygon_read ring_read index_read arc_read position_read based face_taken ring_taken side_taken tree serde_json_on_literals is_utf8 chars is_transform digits
open_ring = refl

-- a ring without area
flat_ring : topology_base (codes "{\"type\":\"Topology\",\"transform\":{\"scale\":[0.0001,0.0001],\"translate\":[5.5,52.25]},\"bbox\":[5.5,52.25,5.503,52.253],\"objects\":{\"land\":{\"type\":\"GeometryCollection\",\"geometries\":[{\"type\":\"Polygon\",\"arcs\":[[2,-3]],\"properties\":{\"kind\":\"field\"}},{\"type\":\"MultiPolygon\",\"arcs\":[[[1,-3]],[[3]]],\"properties\":{\"kind\":\"wood\"}},{\"type\":null}]}},\"arcs\":[[[10,10],[-10,0],[0,-10],[10,0]],[[10,0],[10,0],[0,10],[-10,0]],[[10,0],[0,10]],[[30,30],[0,0]]]}") (codes "land") (codes "{\"property\":\"kind\",\"classes\":[[\"field\",1],[\"wood\",1]],\"default\":0,\"compat\":[[1,1],[1,1]],\"ratio\":16}") ≡ Err (RingFlat 0)
unfolding topology_base rules_of named_rules topology topology_of geometry_read polygon_read ring_read index_read arc_read position_read based face_taken ring_taken side_taken tree serde_json_on_literals is_utf8 chars is_transform digits
flat_ring = refl

-- a side that two faces take
side_twice : topology_base (codes "{\"type\":\"Topology\",\"transform\":{\"scale\":[0.0001,0.0001],\"translate\":[5.5,52.25]},\"bbox\":[5.5,52.25,5.503,52.253],\"objects\":{\"land\":{\"type\":\"GeometryCollection\",\"geometries\":[{\"type\":\"Polygon\",\"arcs\":[[0,2]],\"properties\":{\"kind\":\"field\"}},{\"type\":\"MultiPolygon\",\"arcs\":[[[0,2]],[[3]]],\"properties\":{\"kind\":\"wood\"}},{\"type\":null}]}},\"arcs\":[[[10,10],[-10,0],[0,-10],[10,0]],[[10,0],[10,0],[0,10],[-10,0]],[[10,0],[0,10]],[[30,30],[0,0]]]}") (codes "land") (codes "{\"property\":\"kind\",\"classes\":[[\"field\",1],[\"wood\",1]],\"default\":0,\"compat\":[[1,1],[1,1]],\"ratio\":16}") ≡ Err (SideTaken 0 0 1 2)
unfolding topology_base rules_of named_rules topology topology_of geometry_read polygon_read ring_read index_read arc_read position_read based face_taken ring_taken side_taken tree serde_json_on_literals is_utf8 chars is_transform digits
side_twice = refl

-- an arc with one face at both sides
same_sides : topology_base (codes "{\"type\":\"Topology\",\"transform\":{\"scale\":[0.0001,0.0001],\"translate\":[5.5,52.25]},\"bbox\":[5.5,52.25,5.503,52.253],\"objects\":{\"land\":{\"type\":\"GeometryCollection\",\"geometries\":[{\"type\":\"Polygon\",\"arcs\":[[0,2,-3,1]],\"properties\":{\"kind\":\"field\"}}]}},\"arcs\":[[[10,10],[-10,0],[0,-10],[10,0]],[[10,0],[10,0],[0,10],[-10,0]],[[10,0],[0,10]],[[30,30],[0,0]]]}") (codes "land") (codes "{\"property\":\"kind\",\"classes\":[[\"field\",1],[\"wood\",1]],\"default\":0,\"compat\":[[1,1],[1,1]],\"ratio\":16}") ≡ Err (SameSides 2 1)
unfolding topology_base rules_of named_rules topology topology_of geometry_read polygon_read ring_read index_read arc_read position_read based face_taken ring_taken side_taken tree serde_json_on_literals is_utf8 chars is_transform digits
same_sides = refl

-- an object that is not there
no_object : topology_base (codes "{\"type\":\"Topology\",\"transform\":{\"scale\":[0.0001,0.0001],\"translate\":[5.5,52.25]},\"bbox\":[5.5,52.25,5.503,52.253],\"objects\":{\"land\":{\"type\":\"GeometryCollection\",\"geometries\":[{\"type\":\"Polygon\",\"arcs\":[[0,2]],\"properties\":{\"kind\":\"field\"}},{\"type\":\"MultiPolygon\",\"arcs\":[[[1,-3]],[[3]]],\"properties\":{\"kind\":\"wood\"}},{\"type\":null}]}},\"arcs\":[[[10,10],[-10,0],[0,-10],[10,0]],[[10,0],[10,0],[0,10],[-10,0]],[[10,0],[0,10]],[[30,30],[0,0]]]}") (codes "sea") (codes "{\"property\":\"kind\",\"classes\":[[\"field\",1],[\"wood\",1]],\"default\":0,\"compat\":[[1,1],[1,1]],\"ratio\":16}") ≡ Err NoObject
unfolding topology_base rules_of named_rules topology topology_of geometry_read polygon_read ring_read index_read arc_read position_read based face_taken ring_taken side_taken tree serde_json_on_literals is_utf8 chars is_transform digits
no_object = refl

-- a coordinate outside the limits
far : topology_base (codes "{\"type\":\"Topology\",\"transform\":{\"scale\":[0.0001,0.0001],\"translate\":[5.5,52.25]},\"bbox\":[5.5,52.25,5.503,52.253],\"objects\":{\"land\":{\"type\":\"GeometryCollection\",\"geometries\":[{\"type\":\"Polygon\",\"arcs\":[[0,2]],\"properties\":{\"kind\":\"field\"}},{\"type\":\"MultiPolygon\",\"arcs\":[[[1,-3]],[[3]]],\"properties\":{\"kind\":\"wood\"}},{\"type\":null}]}},\"arcs\":[[[2147483649,10],[-10,0],[0,-10],[10,0]],[[10,0],[10,0],[0,10],[-10,0]],[[10,0],[0,10]],[[30,30],[0,0]]]}") (codes "land") (codes "{\"property\":\"kind\",\"classes\":[[\"field\",1],[\"wood\",1]],\"default\":0,\"compat\":[[1,1],[1,1]],\"ratio\":16}") ≡ Err (OutOfRange 0 0)
unfolding topology_base rules_of named_rules topology topology_of geometry_read polygon_read ring_read index_read arc_read position_read based face_taken ring_taken side_taken tree serde_json_on_literals is_utf8 chars is_transform digits
far = refl

-- a coordinate that is within the limits, and leaves a ring open
within_the_limits : topology_base (codes "{\"type\":\"Topology\",\"transform\":{\"scale\":[0.0001,0.0001],\"translate\":[5.5,52.25]},\"bbox\":[5.5,52.25,5.503,52.253],\"objects\":{\"land\":{\"type\":\"GeometryCollection\",\"geometries\":[{\"type\":\"Polygon\",\"arcs\":[[0,2]],\"properties\":{\"kind\":\"field\"}},{\"type\":\"MultiPolygon\",\"arcs\":[[[1,-3]],[[3]]],\"properties\":{\"kind\":\"wood\"}},{\"type\":null}]}},\"arcs\":[[[268435457,10],[-10,0],[0,-10],[10,0]],[[10,0],[10,0],[0,10],[-10,0]],[[10,0],[0,10]],[[30,30],[0,0]]]}") (codes "land") (codes "{\"property\":\"kind\",\"classes\":[[\"field\",1],[\"wood\",1]],\"default\":0,\"compat\":[[1,1],[1,1]],\"ratio\":16}") ≡ Err (RingOpen 0 0)
unfolding topology_base rules_of named_rules topology topology_of geometry_read polygon_read ring_read index_read arc_read position_read based face_taken ring_taken side_taken tree serde_json_on_literals is_utf8 chars is_transform digits
within_the_limits = refl

-- compatibilities of one class only
few_compatibilities : topology_base (codes "{\"type\":\"Topology\",\"transform\":{\"scale\":[0.0001,0.0001],\"translate\":[5.5,52.25]},\"bbox\":[5.5,52.25,5.503,52.253],\"objects\":{\"land\":{\"type\":\"GeometryCollection\",\"geometries\":[{\"type\":\"Polygon\",\"arcs\":[[0,2]],\"properties\":{\"kind\":\"field\"}},{\"type\":\"MultiPolygon\",\"arcs\":[[[1,-3]],[[3]]],\"properties\":{\"kind\":\"wood\"}},{\"type\":null}]}},\"arcs\":[[[10,10],[-10,0],[0,-10],[10,0]],[[10,0],[10,0],[0,10],[-10,0]],[[10,0],[0,10]],[[30,30],[0,0]]]}") (codes "land") (codes "{\"property\":\"kind\",\"classes\":[[\"field\",1],[\"wood\",1]],\"default\":0,\"compat\":[[1,1]],\"ratio\":16}") ≡ Err (BadRules 5)
unfolding topology_base rules_of named_rules topology topology_of geometry_read polygon_read ring_read index_read arc_read position_read based face_taken ring_taken side_taken tree serde_json_on_literals is_utf8 chars is_transform digits
few_compatibilities = refl

-- brackets that nest too deep
deep : topology_base (codes "[[[[[[[[[[[[[[[[[[[[[[[[[[[[[[[[[[[[[[[[[[[[[[[[[[[[[[[[[[[[[[[[[[[[[[[[[[[[[[[[[[[[[[[[[[[[[[[[[[[[[[[[[[[[[[[[[[[[[[[[[[[[[[[[[[[[[[[[[[[[[[[[[[[[[[[[[[[[[[[[[[[[[[[[[[[[[[[[[[[[[[[[[[[[[[[[[[[[[[[[]]]]]]]]]]]]]]]]]]]]]]]]]]]]]]]]]]]]]]]]]]]]]]]]]]]]]]]]]]]]]]]]]]]]]]]]]]]]]]]]]]]]]]]]]]]]]]]]]]]]]]]]]]]]]]]]]]]]]]]]]]]]]]]]]]]]]]]]]]]]]]]]]]]]]]]]]]]]]]]]]]]]]]]]]]]]]]]]]]]]]]]]]]]]]]]]]]]]]]]]") (codes "land") (codes "{\"property\":\"kind\",\"classes\":[[\"field\",1],[\"wood\",1]],\"default\":0,\"compat\":[[1,1],[1,1]],\"ratio\":16}") ≡ Err NotJson
unfolding topology_base rules_of named_rules topology topology_of geometry_read polygon_read ring_read index_read arc_read position_read based face_taken ring_taken side_taken tree serde_json_on_literals is_utf8 chars is_transform digits
deep = refl

-- another format
no_type : topology_base (codes "{\"type\":\"Topo\",\"transform\":{\"scale\":[0.0001,0.0001],\"translate\":[5.5,52.25]},\"bbox\":[5.5,52.25,5.503,52.253],\"objects\":{\"land\":{\"type\":\"GeometryCollection\",\"geometries\":[{\"type\":\"Polygon\",\"arcs\":[[0,2]],\"properties\":{\"kind\":\"field\"}},{\"type\":\"MultiPolygon\",\"arcs\":[[[1,-3]],[[3]]],\"properties\":{\"kind\":\"wood\"}},{\"type\":null}]}},\"arcs\":[[[10,10],[-10,0],[0,-10],[10,0]],[[10,0],[10,0],[0,10],[-10,0]],[[10,0],[0,10]],[[30,30],[0,0]]]}") (codes "land") (codes "{\"property\":\"kind\",\"classes\":[[\"field\",1],[\"wood\",1]],\"default\":0,\"compat\":[[1,1],[1,1]],\"ratio\":16}") ≡ Err (Shape 2 0)
unfolding topology_base rules_of named_rules topology topology_of geometry_read polygon_read ring_read index_read arc_read position_read based face_taken ring_taken side_taken tree serde_json_on_literals is_utf8 chars is_transform digits
no_type = refl

-- an array
not_an_object : topology_base (codes "[1]") (codes "land") (codes "{\"property\":\"kind\",\"classes\":[[\"field\",1],[\"wood\",1]],\"default\":0,\"compat\":[[1,1],[1,1]],\"ratio\":16}") ≡ Err (Shape 1 0)
unfolding topology_base rules_of named_rules topology topology_of geometry_read polygon_read ring_read index_read arc_read position_read based face_taken ring_taken side_taken tree serde_json_on_literals is_utf8 chars is_transform digits
not_an_object = refl

-- no arcs
no_arcs : topology_base (codes "{\"type\":\"Topology\",\"transform\":{\"scale\":[0.0001,0.0001],\"translate\":[5.5,52.25]},\"bbox\":[5.5,52.25,5.503,52.253],\"objects\":{\"land\":{\"type\":\"GeometryCollection\",\"geometries\":[{\"type\":\"Polygon\",\"arcs\":[[0,2]],\"properties\":{\"kind\":\"field\"}},{\"type\":\"MultiPolygon\",\"arcs\":[[[1,-3]],[[3]]],\"properties\":{\"kind\":\"wood\"}},{\"type\":null}]}},\"curves\":[[[10,10],[-10,0],[0,-10],[10,0]],[[10,0],[10,0],[0,10],[-10,0]],[[10,0],[0,10]],[[30,30],[0,0]]]}") (codes "land") (codes "{\"property\":\"kind\",\"classes\":[[\"field\",1],[\"wood\",1]],\"default\":0,\"compat\":[[1,1],[1,1]],\"ratio\":16}") ≡ Err (Shape 4 0)
unfolding topology_base rules_of named_rules topology topology_of geometry_read polygon_read ring_read index_read arc_read position_read based face_taken ring_taken side_taken tree serde_json_on_literals is_utf8 chars is_transform digits
no_arcs = refl

-- a transform without its translation
half_transform : topology_base (codes "{\"type\":\"Topology\",\"transform\":{\"scale\":[0.0001,0.0001],\"shift\":[5.5,52.25]},\"bbox\":[5.5,52.25,5.503,52.253],\"objects\":{\"land\":{\"type\":\"GeometryCollection\",\"geometries\":[{\"type\":\"Polygon\",\"arcs\":[[0,2]],\"properties\":{\"kind\":\"field\"}},{\"type\":\"MultiPolygon\",\"arcs\":[[[1,-3]],[[3]]],\"properties\":{\"kind\":\"wood\"}},{\"type\":null}]}},\"arcs\":[[[10,10],[-10,0],[0,-10],[10,0]],[[10,0],[10,0],[0,10],[-10,0]],[[10,0],[0,10]],[[30,30],[0,0]]]}") (codes "land") (codes "{\"property\":\"kind\",\"classes\":[[\"field\",1],[\"wood\",1]],\"default\":0,\"compat\":[[1,1],[1,1]],\"ratio\":16}") ≡ Err (Shape 5 0)
unfolding topology_base rules_of named_rules topology topology_of geometry_read polygon_read ring_read index_read arc_read position_read based face_taken ring_taken side_taken tree serde_json_on_literals is_utf8 chars is_transform digits
half_transform = refl

-- a transform of null: positions are absolute
null_transform : topology_base (codes "{\"type\":\"Topology\",\"transform\":null,\"bbox\":[5.5,52.25,5.503,52.253],\"objects\":{\"land\":{\"type\":\"GeometryCollection\",\"geometries\":[{\"type\":\"Polygon\",\"arcs\":[[0,2]],\"properties\":{\"kind\":\"field\"}},{\"type\":\"MultiPolygon\",\"arcs\":[[[1,-3]],[[3]]],\"properties\":{\"kind\":\"wood\"}},{\"type\":null}]}},\"arcs\":[[[10,10],[-10,0],[0,-10],[10,0]],[[10,0],[10,0],[0,10],[-10,0]],[[10,0],[0,10]],[[30,30],[0,0]]]}") (codes "land") (codes "{\"property\":\"kind\",\"classes\":[[\"field\",1],[\"wood\",1]],\"default\":0,\"compat\":[[1,1],[1,1]],\"ratio\":16}") ≡ Err (RingOpen 0 1)
unfolding topology_base rules_of named_rules topology topology_of geometry_read polygon_read ring_read index_read arc_read position_read based face_taken ring_taken side_taken tree serde_json_on_literals is_utf8 chars is_transform digits
null_transform = refl

-- a position of one number
bad_position : topology_base (codes "{\"type\":\"Topology\",\"transform\":{\"scale\":[0.0001,0.0001],\"translate\":[5.5,52.25]},\"bbox\":[5.5,52.25,5.503,52.253],\"objects\":{\"land\":{\"type\":\"GeometryCollection\",\"geometries\":[{\"type\":\"Polygon\",\"arcs\":[[0,2]],\"properties\":{\"kind\":\"field\"}},{\"type\":\"MultiPolygon\",\"arcs\":[[[1,-3]],[[3]]],\"properties\":{\"kind\":\"wood\"}},{\"type\":null}]}},\"arcs\":[[[10],[-10,0],[0,-10],[10,0]],[[10,0],[10,0],[0,10],[-10,0]],[[10,0],[0,10]],[[30,30],[0,0]]]}") (codes "land") (codes "{\"property\":\"kind\",\"classes\":[[\"field\",1],[\"wood\",1]],\"default\":0,\"compat\":[[1,1],[1,1]],\"ratio\":16}") ≡ Err (Shape 7 0)
unfolding topology_base rules_of named_rules topology topology_of geometry_read polygon_read ring_read index_read arc_read position_read based face_taken ring_taken side_taken tree serde_json_on_literals is_utf8 chars is_transform digits
bad_position = refl

-- a geometry that is a number: the fourth that is met
geometry_of_number : topology_base (codes "{\"type\":\"Topology\",\"transform\":{\"scale\":[0.0001,0.0001],\"translate\":[5.5,52.25]},\"bbox\":[5.5,52.25,5.503,52.253],\"objects\":{\"land\":{\"type\":\"GeometryCollection\",\"geometries\":[{\"type\":\"Polygon\",\"arcs\":[[0,2]],\"properties\":{\"kind\":\"field\"}},{\"type\":\"MultiPolygon\",\"arcs\":[[[1,-3]],[[3]]],\"properties\":{\"kind\":\"wood\"}},7]}},\"arcs\":[[[10,10],[-10,0],[0,-10],[10,0]],[[10,0],[10,0],[0,10],[-10,0]],[[10,0],[0,10]],[[30,30],[0,0]]]}") (codes "land") (codes "{\"property\":\"kind\",\"classes\":[[\"field\",1],[\"wood\",1]],\"default\":0,\"compat\":[[1,1],[1,1]],\"ratio\":16}") ≡ Err (Shape 8 3)
unfolding topology_base rules_of named_rules topology topology_of geometry_read polygon_read ring_read index_read arc_read position_read based face_taken ring_taken side_taken tree serde_json_on_literals is_utf8 chars is_transform digits
geometry_of_number = refl

-- indexes that nest less deep than a polygon's
shallow_arcs : topology_base (codes "{\"type\":\"Topology\",\"transform\":{\"scale\":[0.0001,0.0001],\"translate\":[5.5,52.25]},\"bbox\":[5.5,52.25,5.503,52.253],\"objects\":{\"land\":{\"type\":\"GeometryCollection\",\"geometries\":[{\"type\":\"Polygon\",\"arcs\":[0,2],\"properties\":{\"kind\":\"field\"}},{\"type\":\"MultiPolygon\",\"arcs\":[[[1,-3]],[[3]]],\"properties\":{\"kind\":\"wood\"}},{\"type\":null}]}},\"arcs\":[[[10,10],[-10,0],[0,-10],[10,0]],[[10,0],[10,0],[0,10],[-10,0]],[[10,0],[0,10]],[[30,30],[0,0]]]}") (codes "land") (codes "{\"property\":\"kind\",\"classes\":[[\"field\",1],[\"wood\",1]],\"default\":0,\"compat\":[[1,1],[1,1]],\"ratio\":16}") ≡ Err (Shape 9 1)
unfolding topology_base rules_of named_rules topology topology_of geometry_read polygon_read ring_read index_read arc_read position_read based face_taken ring_taken side_taken tree serde_json_on_literals is_utf8 chars is_transform digits
shallow_arcs = refl

-- two objects, and no name
two_objects : topology_base (codes "{\"type\":\"Topology\",\"transform\":{\"scale\":[0.0001,0.0001],\"translate\":[5.5,52.25]},\"bbox\":[5.5,52.25,5.503,52.253],\"objects\":{\"sea\":{\"type\":null},\"land\":{\"type\":\"GeometryCollection\",\"geometries\":[{\"type\":\"Polygon\",\"arcs\":[[0,2]],\"properties\":{\"kind\":\"field\"}},{\"type\":\"MultiPolygon\",\"arcs\":[[[1,-3]],[[3]]],\"properties\":{\"kind\":\"wood\"}},{\"type\":null}]}},\"arcs\":[[[10,10],[-10,0],[0,-10],[10,0]],[[10,0],[10,0],[0,10],[-10,0]],[[10,0],[0,10]],[[30,30],[0,0]]]}") (codes "-") (codes "{\"property\":\"kind\",\"classes\":[[\"field\",1],[\"wood\",1]],\"default\":0,\"compat\":[[1,1],[1,1]],\"ratio\":16}") ≡ Err (ManyObjects 2)
unfolding topology_base rules_of named_rules topology topology_of geometry_read polygon_read ring_read index_read arc_read position_read based face_taken ring_taken side_taken tree serde_json_on_literals is_utf8 chars is_transform digits
two_objects = refl

-- the index of the third ring
last_ring : topology_base (codes "{\"type\":\"Topology\",\"transform\":{\"scale\":[0.0001,0.0001],\"translate\":[5.5,52.25]},\"bbox\":[5.5,52.25,5.503,52.253],\"objects\":{\"land\":{\"type\":\"GeometryCollection\",\"geometries\":[{\"type\":\"Polygon\",\"arcs\":[[0,2]],\"properties\":{\"kind\":\"field\"}},{\"type\":\"MultiPolygon\",\"arcs\":[[[1,-3]],[[-5]]],\"properties\":{\"kind\":\"wood\"}},{\"type\":null}]}},\"arcs\":[[[10,10],[-10,0],[0,-10],[10,0]],[[10,0],[10,0],[0,10],[-10,0]],[[10,0],[0,10]],[[30,30],[0,0]]]}") (codes "land") (codes "{\"property\":\"kind\",\"classes\":[[\"field\",1],[\"wood\",1]],\"default\":0,\"compat\":[[1,1],[1,1]],\"ratio\":16}") ≡ Err (ArcIndex 2 0 (negsuc 4))
unfolding topology_base rules_of named_rules topology topology_of geometry_read polygon_read ring_read index_read arc_read position_read based face_taken ring_taken side_taken tree serde_json_on_literals is_utf8 chars is_transform digits
last_ring = refl

-- a default class that there is not
class_of_no_such_number : topology_base (codes "{\"type\":\"Topology\",\"transform\":{\"scale\":[0.0001,0.0001],\"translate\":[5.5,52.25]},\"bbox\":[5.5,52.25,5.503,52.253],\"objects\":{\"land\":{\"type\":\"GeometryCollection\",\"geometries\":[{\"type\":\"Polygon\",\"arcs\":[[0,2]],\"properties\":{\"kind\":\"field\"}},{\"type\":\"MultiPolygon\",\"arcs\":[[[1,-3]],[[3]]],\"properties\":{\"kind\":\"wood\"}},{\"type\":null}]}},\"arcs\":[[[10,10],[-10,0],[0,-10],[10,0]],[[10,0],[10,0],[0,10],[-10,0]],[[10,0],[0,10]],[[30,30],[0,0]]]}") (codes "land") (codes "{\"property\":\"kind\",\"classes\":[[\"field\",1],[\"wood\",1]],\"default\":2,\"compat\":[[1,1],[1,1]],\"ratio\":16}") ≡ Err (BadRules 4)
unfolding topology_base rules_of named_rules topology topology_of geometry_read polygon_read ring_read index_read arc_read position_read based face_taken ring_taken side_taken tree serde_json_on_literals is_utf8 chars is_transform digits
class_of_no_such_number = refl

-- a bad class before a bad default
many_faults : topology_base (codes "{\"type\":\"Topology\",\"transform\":{\"scale\":[0.0001,0.0001],\"translate\":[5.5,52.25]},\"bbox\":[5.5,52.25,5.503,52.253],\"objects\":{\"land\":{\"type\":\"GeometryCollection\",\"geometries\":[{\"type\":\"Polygon\",\"arcs\":[[0,2]],\"properties\":{\"kind\":\"field\"}},{\"type\":\"MultiPolygon\",\"arcs\":[[[1,-3]],[[3]]],\"properties\":{\"kind\":\"wood\"}},{\"type\":null}]}},\"arcs\":[[[10,10],[-10,0],[0,-10],[10,0]],[[10,0],[10,0],[0,10],[-10,0]],[[10,0],[0,10]],[[30,30],[0,0]]]}") (codes "land") (codes "{\"property\":\"kind\",\"classes\":[[\"field\",1],[\"wood\",0]],\"default\":2,\"compat\":[[1,1],[1,1]],\"ratio\":16}") ≡ Err (BadRules 3)
unfolding topology_base rules_of named_rules topology topology_of geometry_read polygon_read ring_read index_read arc_read position_read based face_taken ring_taken side_taken tree serde_json_on_literals is_utf8 chars is_transform digits
many_faults = refl
