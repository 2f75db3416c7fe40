-- A topology as it is read: TopoJSON 1.0 (section 2), with whole positions. Faults come in the order of docs/formats.md.
use Rattle.std.specs.Prelude.{ℕ, zero, suc, ℤ, pos, neg_ℤ, ◌+ℤ◌, int_le, int_lt, nat_le, nat_lt, bytes_eq, Bool, true, false, ◌&&◌, List, [], ◌∷◌, ◌++◌, length, sum_by, count_by, codes, Option, Some, None, option_map, option_and_then, Result, Ok, Err, if◌then◌else◌}
use Rattle.std.specs.Option.{ok_or, is_some, unwrap_or}
use Rattle.std.specs.Fmt.{signed_decimal}
use Rattle.serde_json.specs.Data.{Num, Data, Members, no_members, member}
use Rattle.serde_json.specs.Find.{get, get_member, as_null, as_object, as_number, as_str, as_i64}
use Rattle.tgap_model.specs.declared.geometry.Point.{Point}
use Rattle.tgap_model.specs.declared.base.Transform.{Transform}
use Rattle.tgap_model.specs.declared.topology.RawPolygon.{RawPolygon}
use Rattle.tgap_model.specs.declared.topology.RawMap.{RawMap}
use Rattle.tgap_model.specs.declared.fault.LimitKind.TheVariants.{Faces, Arcs, Points}
use Rattle.tgap_model.specs.declared.fault.MapFault.{MapFault}
use Rattle.tgap_model.specs.declared.fault.MapFault.TheVariants.{NotJson, Shape, NoObject, ManyObjects, NotWhole, OutOfRange, ArcShort, ArcIndex}
use Rattle.tgap_model.specs.Base.{is_word, in_limits, same_point}
use Rattle.map_forms.specs.Listing.{within_limit}
use Rattle.line_forms.specs.Lines.{◌>>=◌, next_number}
use Rattle.line_forms.specs.Json.{tree, ensured, try_fold, each_of, items_of, items_at, text_at, whole_of}

-- ---- the transform

-- scale 1, translation 0
abbrev pub no_transform : Transform
no_transform = record { sx = pos 1; sy = pos 1; tx = pos 0; ty = pos 0 }

-- two numbers, and no more
abbrev pub two_numbers : List Data → Option (Num × Num)
two_numbers (a ∷ b ∷ []) = option_and_then (λ x. option_map (λ y. (x, y)) (as_number b)) (as_number a)
two_numbers items = None

abbrev pub pair_at : List ℕ → Data → Option (Num × Num)
pair_at key d = option_and_then two_numbers (items_at key d)

-- a whole number of 32 bits with a sign
abbrev pub word_of : Num → Option ℤ
word_of n = option_and_then (λ z. if is_word z then Some z else None) (as_i64 n)

abbrev pub words_of : Num × Num → Option (ℤ × ℤ)
words_of p = option_and_then (λ x. option_map (λ y. (x, y)) (word_of p.1)) (word_of p.0)

-- four whole numbers are kept; others are nothing to the grid
abbrev pub kept_transform : Num × Num → Num × Num → Transform
kept_transform scale translate =
    unwrap_or
    (option_and_then
    (λ s. option_map (λ t. record { sx = s.0; sy = s.1; tx = t.0; ty = t.1 }) (words_of translate))
    (words_of scale))
    no_transform

-- What a topology tells of its positions: whether those after the first of an arc are differences, and the transform.
pub record Quantized : Type 0 where
  pub deltas : Bool
  pub transform : Transform

abbrev pub given_transform : Data → Option Quantized
given_transform d =
    option_and_then
    (λ scale. option_map (λ translate. record { deltas = true; transform = kept_transform scale translate }) (pair_at (codes "translate") d))
    (pair_at (codes "scale") d)

abbrev pub quantized : Option Data → Option Quantized
quantized None = Some (record { deltas = false; transform = no_transform })
quantized (Some d) = if is_some (as_null d) then Some (record { deltas = false; transform = no_transform }) else given_transform d

-- ---- the object

abbrev pub count_members : Members → ℕ
count_members no_members = 0
count_members (member key d more) = suc (count_members more)

-- the only member
abbrev pub only_member : Members → Result Data MapFault
only_member no_members = Err NoObject
only_member (member key d no_members) = Ok d
only_member (member key d (member next e more)) = Err (ManyObjects (suc (suc (count_members more))))

-- the member of this name, or the only one, where the name is `-`
abbrev pub chosen : List ℕ → Members → Result Data MapFault
chosen name objects = if bytes_eq name (codes "-") then only_member objects else ok_or (get_member name objects) NoObject

-- ---- the arcs

-- an arc up to a position: how many were read, where the last one is, and the points without repeated ones
pub record ArcSoFar : Type 0 where
  pub count : ℕ
  pub at : Point
  pub points : List Point

abbrev pub no_positions : ArcSoFar
no_positions = record { count = 0; at = record { x = pos 0; y = pos 0 }; points = [] }

-- the first two members of a position, which are numbers; others are nothing to the map
abbrev pub leading_numbers : List Data → Option (Num × Num)
leading_numbers (a ∷ b ∷ more) = option_and_then (λ x. option_map (λ y. (x, y)) (as_number b)) (as_number a)
leading_numbers items = None

abbrev pub whole_pair : Num × Num → Option (ℤ × ℤ)
whole_pair p = option_and_then (λ x. option_map (λ y. (x, y)) (as_i64 p.1)) (as_i64 p.0)

-- The point of a position. The difference of the first one is from 0, 0.
abbrev pub point_of : Bool → Point → ℤ × ℤ → Point
point_of deltas at p = if deltas then record { x = at.x +ℤ p.0; y = at.y +ℤ p.1 } else record { x = p.0; y = p.1 }

abbrev pub limited : Point → Option Point
limited p = if in_limits p then Some p else None

-- a position more
abbrev pub with_position : ArcSoFar → Point → ArcSoFar
with_position arc p = record {
  count = next_number arc.count;
  at = p;
  points = if nat_lt 0 arc.count && same_point arc.at p then arc.points else arc.points ++ p ∷ [];
}

-- the next position of arc number a
unfoldable pub position_read : Bool → ℕ → ArcSoFar → Data → Result ArcSoFar MapFault
position_read deltas a arc d = do
  numbers ← ok_or (option_and_then leading_numbers (items_of d)) (Shape 7 a)
  whole ← ok_or (whole_pair numbers) (NotWhole a arc.count)
  point ← ok_or (limited (point_of deltas arc.at whole)) (OutOfRange a arc.count)
  Ok (with_position arc point)

-- the next arc, after these
unfoldable pub arc_read : Bool → List (List Point) → Data → Result (List (List Point)) MapFault
arc_read deltas arcs d = do
  positions ← ok_or (items_of d) (Shape 6 (length arcs))
  arc ← try_fold (position_read deltas (length arcs)) no_positions positions
  long ← ensured (nat_le 2 arc.count) (ArcShort (length arcs))
  Ok (arcs ++ arc.points ∷ [])

-- ---- the polygons

-- The walk over the geometries: how many were met, how many rings they have, and the polygons.
pub record Walk : Type 0 where
  pub geometries : ℕ
  pub rings : ℕ
  pub polygons : List RawPolygon

abbrev pub no_geometries : Walk
no_geometries = record { geometries = 0; rings = 0; polygons = [] }

-- the geometry itself is met
abbrev pub met : Walk → Walk
met walk = record { geometries = next_number walk.geometries; rings = walk.rings; polygons = walk.polygons }

-- the indexes of a ring, of the rings of a polygon, and of several polygons
abbrev pub ring_of : Data → Option (List ℤ)
ring_of d = option_and_then (each_of whole_of) (items_of d)

abbrev pub rings_of : Data → Option (List (List ℤ))
rings_of d = option_and_then (each_of ring_of) (items_of d)

abbrev pub polygons_of : Data → Option (List (List (List ℤ)))
polygons_of d = option_and_then (each_of rings_of) (items_of d)

-- the index names one of n arcs
abbrev pub names_arc : ℕ → ℤ → Bool
names_arc n i = int_le (neg_ℤ (pos n)) i && int_lt i (pos n)

-- the next place of a ring of that number
unfoldable pub index_read : ℕ → ℕ → ℕ → ℤ → Result ℕ MapFault
index_read n ring place i = ensured (names_arc n i) (ArcIndex ring place i) >>= λ named. Ok (next_number place)

-- the next ring, after so many
unfoldable pub ring_read : ℕ → ℕ → List ℤ → Result ℕ MapFault
ring_read n ring indexes = try_fold (index_read n ring) 0 indexes >>= λ places. Ok (next_number ring)

-- the next polygon of a geometry of this kind
unfoldable pub polygon_read : ℕ → Option (List ℕ) → Walk → List (List ℤ) → Result Walk MapFault
polygon_read n kind walk rings = do
  after ← try_fold (ring_read n) walk.rings rings
  Ok (record {
    geometries = walk.geometries;
    rings = after;
    polygons = walk.polygons ++ record { kind = kind; first_ring = walk.rings; rings = rings } ∷ [];
  })

-- what a geometry has for a property: a text, or a whole number in decimals
abbrev pub text_of : Data → Option (List ℕ)
text_of d = elim (as_str d) [
  | Some s ↦ Some s
  | None ↦ option_map signed_decimal (whole_of d)
]

abbrev pub kind_of : List ℕ → Data → Option (List ℕ)
kind_of property d = option_and_then text_of (option_and_then (get property) (get (codes "properties") d))

-- What a geometry is to the walk, by its type.
pub data Geometry : Type 0 where
  collection : Geometry
  polygon : Geometry
  polygons : Geometry
  other : Geometry

abbrev pub geometry_named : List ℕ → Geometry
geometry_named name =
    if bytes_eq name (codes "GeometryCollection") then collection
    else (if bytes_eq name (codes "Polygon") then polygon else (if bytes_eq name (codes "MultiPolygon") then polygons else other))

abbrev pub geometry_of : Data → Geometry
geometry_of d = elim (text_at (codes "type") d) [
  | Some name ↦ geometry_named name
  | None ↦ other
]

-- the rings of the polygons of a geometry; one of another type has none
abbrev pub shapes_of : Geometry → Data → Option (List (List (List ℤ)))
shapes_of polygon d = option_map (λ rings. rings ∷ []) (option_and_then rings_of (get (codes "arcs") d))
shapes_of polygons d = option_and_then polygons_of (get (codes "arcs") d)
shapes_of collection d = Some []
shapes_of other d = Some []

-- the geometries of a collection; others have none
abbrev pub members_of : Geometry → Data → Option (List Data)
members_of collection d = items_at (codes "geometries") d
members_of polygon d = Some []
members_of polygons d = Some []
members_of other d = Some []

-- A geometry and those in it, at most so deep; JSON values that are read nest less deep than 128. There are n arcs.
unfoldable pub geometry_read : ℕ → ℕ → List ℕ → Walk → Data → Result Walk MapFault
geometry_read zero n property walk d = Ok walk
geometry_read (suc depth) n property walk d = do
  object ← ensured (is_some (as_object d)) (Shape 8 walk.geometries)
  members ← ok_or (members_of (geometry_of d) d) (Shape 8 walk.geometries)
  shapes ← ok_or (shapes_of (geometry_of d) d) (Shape 9 walk.geometries)
  own ← try_fold (polygon_read n (kind_of property d)) (met walk) shapes
  try_fold (geometry_read depth n property) own members

-- ---- the whole

abbrev pub has_ring : RawPolygon → Bool
has_ring p = nat_le 1 (length p.rings)

-- the text is the name of the format
abbrev pub is_format : Option (List ℕ) → Bool
is_format None = false
is_format (Some name) = bytes_eq name (codes "Topology")

-- The topology with this object chosen, and with this property as what names classes: its arcs and polygons, or its first fault.
unfoldable pub topology_of : Data → List ℕ → List ℕ → Result RawMap MapFault
topology_of d object property = do
  top ← ensured (is_some (as_object d)) (Shape 1 0)
  typed ← ensured (is_format (text_at (codes "type") d)) (Shape 2 0)
  objects ← ok_or (option_and_then as_object (get (codes "objects") d)) (Shape 3 0)
  arcs ← ok_or (items_at (codes "arcs") d) (Shape 4 0)
  positions ← ok_or (quantized (get (codes "transform") d)) (Shape 5 0)
  geometry ← chosen object objects
  few_arcs ← within_limit Arcs (length arcs)
  lines ← try_fold (arc_read positions.deltas) [] arcs
  few_points ← within_limit Points (sum_by length lines)
  walk ← geometry_read 128 (length lines) property no_geometries geometry
  few_faces ← within_limit Faces (count_by has_ring walk.polygons)
  Ok (record { transform = positions.transform; arcs = lines; polygons = walk.polygons })

-- the topology that the bytes of a file tell
unfoldable pub topology : List ℕ → List ℕ → List ℕ → Result RawMap MapFault
topology bytes object property = do
  d ← ok_or (tree bytes) NotJson
  topology_of d object property
