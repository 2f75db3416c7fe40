-- The base map that is read back of the text of a slice: its arcs are the edges, and its faces are the parts of the slice's faces.
use Rattle.std.specs.Prelude.{◌≡◌, ◌≢◌, ◌≤◌, ℕ, zero, suc, ◌+◌, IsTrue, decimal, codes, List, [], ◌∷◌, length, map, slice_index_or, All, AllPairs, Contains, Ok, if◌then◌else◌}
use Rattle.std.specs.List.{AllZip, range_with_len}
use Rattle.tgap_model.specs.declared.base.BaseArc.{BaseArc}
use Rattle.tgap_model.specs.declared.slice.Edge.{Edge}
use Rattle.tgap_model.specs.declared.slice.Slice.{Slice}
use Rattle.tgap_model.specs.declared.topology.NamedRules.{NamedRules}
use Rattle.tgap_model.specs.declared.topology.RawMap.{RawMap}
use Rattle.tgap_model.specs.declared.limits.TheConstants.{MAX_FACES}
use Rattle.tgap_model.specs.Base.{BaseMap, is_base}
use Rattle.tgap_model.specs.Partition.{IsPartition, base_segments}
use Rattle.tgap_model.specs.History.{history_of}
use Rattle.tgap_model.specs.Slice.{slice}
use Rattle.ring_walk.specs.declared.side.Side.{Side}
use Rattle.ring_walk.specs.Rings.{is_in_ring}
use Rattle.slice_read.specs.Ends.{slice_ends}
use Rattle.topology_forms.specs.Topology.{topology}
use Rattle.map_forms.specs.RulesFile.{rules_of, is_named_rules}
use Rattle.topology_forms.specs.Rings.{based, topology_base}
use Rattle.topo_write.specs.Polygons.{Polygon, polygons_of}
use Rattle.topo_write.specs.Topology.{export}

-- the number of the part that has a side in one of its rings, where the first of these parts has number f; 0 where none has it
abbrev pub part_from : ℕ → List Polygon → Side → ℕ
part_from f [] s = 0
part_from f (p ∷ polygons) s = if is_in_ring p.rings s then f else part_from (f + 1) polygons s

-- the face of the part with this number; that of 0 is the outside
abbrev pub part_face : List Polygon → ℕ → ℕ
part_face polygons zero = 0
part_face polygons (suc i) = slice_index_or (map (λ p. p.row.face) polygons) i 0

-- An arc has the points of an edge, and at its sides are parts of the edge's faces.
pub record IsArcOf (polygons : List Polygon) (e : Edge) (a : BaseArc) : Type 0 where
  pub points : a.points ≡ e.points
  pub left : part_face polygons a.left ≡ e.left
  pub right : part_face polygons a.right ≡ e.right

-- A base map has the arcs of a slice, between the parts of its faces: each part has the class of its face.
pub record IsReadBase (m : BaseMap) (s : Slice) (polygons : List Polygon) (base : BaseMap) : Type 0 where
  pub transform : base.transform ≡ m.transform
  pub rules : base.rules ≡ m.rules
  pub arcs : AllZip (IsArcOf polygons) s.edges base.arcs
  pub classes : base.classes ≡ map (λ p. p.row.class) polygons
  pub faces : All (λ p. Contains s.faces p.row) polygons

-- rules whose classes are named by their numbers, by the property of that name
pub record AreNumberedRules (m : BaseMap) (named : NamedRules) : Type 0 where
  pub property : named.property ≡ codes "class"
  pub names : named.names ≡ map decimal (range_with_len 0 (length m.rules.weights))
  pub rules : named.rules ≡ m.rules

-- each face has one part at most
abbrev pub HaveOnePart : List Polygon → Type 0
HaveOnePart polygons = AllPairs (λ p q. p.row.face ≢ q.row.face) polygons

-- The text is read as a base map of the slice, also with a file of these rules. Where each face has one part, it is a planar partition.
pub record IsReadBack (m : BaseMap) (k : ℕ) (named : NamedRules) (polygons : List Polygon) (text : List ℕ) : Type 0 where
  pub raw : RawMap
  pub base : BaseMap
  pub read : topology text (codes "map") named.property ≡ Ok raw
  pub made : based raw named ≡ Ok base
  pub file : (bytes : List ℕ) → rules_of bytes ≡ Ok named → topology_base text (codes "map") bytes ≡ Ok base
  pub formed : IsTrue (is_named_rules named) → IsTrue (is_base base)
  pub base_is : IsReadBase m (slice m k) polygons base
  pub planar : HaveOnePart polygons → IsPartition (base_segments base)

-- ---- the law

-- Where a slice of a planar partition has at most so many parts as a map has faces, and no face that is no polygon, its text is read back.
abbrev pub ExportsAreReadBack : Type 0
ExportsAreReadBack =
    (m : BaseMap) → IsTrue (is_base m) → IsPartition (base_segments m) → (k : ℕ) → k ≤ length (history_of m)
    → (named : NamedRules) → AreNumberedRules m named
    → (polygons : List Polygon) → polygons_of (slice m k).edges (slice_ends m k) (slice m k).faces ≡ Ok polygons → length polygons ≤ MAX_FACES
    → (text : List ℕ) → export (slice m k) (slice_ends m k) m.transform ≡ Ok text → IsReadBack m k named polygons text
