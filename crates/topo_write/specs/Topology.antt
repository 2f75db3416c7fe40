-- A slice as a topology: a JSON value (RFC 8259) of the form of TopoJSON 1.0, and its text with no space.
use Rattle.std.specs.Prelude.{ℕ, ℤ, pos, negsuc, ◌-ℤ◌, List, [], ◌∷◌, map, codes, Result, Ok, Err}
use Rattle.serde_json.specs.Data.{Data, Num, unsigned, negative, number, string, array, object, no_members, member}
use Rattle.serde_json.specs.View.{items_of}
use Rattle.serde_json.specs.Written.{compact_text}
use Rattle.tgap_model.specs.declared.geometry.Point.{Point}
use Rattle.tgap_model.specs.declared.base.Transform.{Transform}
use Rattle.tgap_model.specs.declared.slice.Slice.{Slice}
use Rattle.ring_walk.specs.declared.span.EdgeEnds.{EdgeEnds}
use Rattle.ring_walk.specs.declared.side.Side.{Side}
use Rattle.ring_walk.specs.declared.side.Way.{Way}
use Rattle.ring_walk.specs.declared.side.Way.TheVariants.{Along, Against}
use Rattle.ring_walk.specs.Sides.{origin}
use Rattle.topo_write.specs.declared.flat.FlatRing.{FlatRing}
use Rattle.topo_write.specs.Polygons.{Polygon, lines_of, polygons_of}

-- ---- JSON values

abbrev pub num_of : ℤ → Num
num_of (pos n) = unsigned n
num_of (negsuc n) = negative (negsuc n)

abbrev pub whole : ℤ → Data
whole z = number (num_of z)

abbrev pub list : List Data → Data
list ds = array (items_of ds)

abbrev pub pair : ℤ → ℤ → Data
pair x y = list (whole x ∷ whole y ∷ [])

-- ---- arcs

-- each point as its difference from the one before it
abbrev pub deltas : Point → List Point → List Data
deltas at [] = []
deltas at (p ∷ points) = pair (p.x -ℤ at.x) (p.y -ℤ at.y) ∷ deltas p points

-- the first point is told as it is
abbrev pub arc_data : List Point → Data
arc_data points = list (deltas origin points)

-- ---- geometries

-- how a ring names an arc: by its number i, or by -i - 1 where it goes against it
abbrev pub index_by : Way → ℕ → ℤ
index_by Along i = pos i
index_by Against i = negsuc i

abbrev pub index_data : Side → Data
index_data s = whole (index_by s.way s.span)

abbrev pub ring_data : List Side → Data
ring_data ring = list (map index_data ring)

abbrev pub polygon_data : Polygon → Data
polygon_data p = object
    (member (codes "arcs") (list (map ring_data p.rings))
    (member (codes "properties") (object (member (codes "class") (number (unsigned p.row.class)) (member (codes "face") (number (unsigned p.row.face)) no_members)))
    (member (codes "type") (string (codes "Polygon")) no_members)))

-- ---- the whole

abbrev pub collection_data : List Polygon → Data
collection_data polygons = object
    (member (codes "geometries") (list (map polygon_data polygons))
    (member (codes "type") (string (codes "GeometryCollection")) no_members))

abbrev pub transform_data : Transform → Data
transform_data t = object (member (codes "scale") (pair t.sx t.sy) (member (codes "translate") (pair t.tx t.ty) no_members))

abbrev pub topology_data : Transform → List (List Point) → List Polygon → Data
topology_data t lines polygons = object
    (member (codes "arcs") (list (map arc_data lines))
    (member (codes "objects") (object (member (codes "map") (collection_data polygons) no_members))
    (member (codes "transform") (transform_data t)
    (member (codes "type") (string (codes "Topology")) no_members))))

-- the text of a topology with these arcs and polygons
unfoldable pub topology_text : Transform → List (List Point) → List Polygon → List ℕ
topology_text t lines polygons = compact_text (topology_data t lines polygons)

-- The text of a slice, whose edges end in the base map in these directions; or the first of its faces that is no polygon.
unfoldable pub export : Slice → List EdgeEnds → Transform → Result (List ℕ) FlatRing
export slice ends t = elim (polygons_of slice.edges ends slice.faces) [
  | Ok polygons ↦ Ok (topology_text t (lines_of slice.edges) polygons)
  | Err flat ↦ Err flat
]
