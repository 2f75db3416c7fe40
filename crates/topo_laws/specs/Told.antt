-- What the text of a slice tells its reader: the arcs with their points, and of each polygon the class and the rings by their indexes.
use Rattle.std.specs.Prelude.{◌≡◌, ◌≤◌, ◌<◌, ℕ, ◌^◌, ℤ, IsTrue, decimal, codes, List, [], ◌∷◌, length, map, sum_by, All, Some, Ok}
use Rattle.std.specs.List.{list_all}
use Rattle.tgap_model.specs.declared.geometry.Point.{Point}
use Rattle.tgap_model.specs.declared.base.Transform.{Transform}
use Rattle.tgap_model.specs.declared.topology.RawPolygon.{RawPolygon}
use Rattle.tgap_model.specs.declared.topology.RawMap.{RawMap}
use Rattle.tgap_model.specs.declared.limits.TheConstants.{MAX_ARCS, MAX_POINTS, MAX_FACES}
use Rattle.tgap_model.specs.Base.{is_transform, in_limits, no_repeat}
use Rattle.ring_walk.specs.declared.side.Side.{Side}
use Rattle.ring_walk.specs.Spans.{IsSide}
use Rattle.line_forms.specs.Lines.{next_number}
use Rattle.topology_forms.specs.Topology.{topology_of, topology}
use Rattle.topo_write.specs.Polygons.{Polygon}
use Rattle.topo_write.specs.Topology.{index_by, topology_data, topology_text}

-- how a ring names its sides
abbrev pub index_of : Side → ℤ
index_of s = index_by s.way s.span

abbrev pub indexes_of : List (List Side) → List (List ℤ)
indexes_of rings = map (map index_of) rings

-- the number after those of some rings, of which the first has number r
abbrev pub after_rings : ℕ → List (List Side) → ℕ
after_rings r [] = r
after_rings r (ring ∷ rings) = after_rings (next_number r) rings

-- polygons as they are told, of which the first ring has number r
abbrev pub told_from : ℕ → List Polygon → List RawPolygon
told_from r [] = []
told_from r (p ∷ polygons) =
    record { kind = Some (decimal p.row.class); first_ring = r; rings = indexes_of p.rings } ∷ told_from (after_rings r p.rings) polygons

abbrev pub told : Transform → List (List Point) → List Polygon → RawMap
told t lines polygons = record { transform = t; arcs = lines; polygons = told_from 0 polygons }

-- ---- what can be told

-- a row of two points at least within the limits, of which no two in a row are one
pub record IsTellableLine (points : List Point) : Type 0 where
  pub long : 2 ≤ length points
  pub near : IsTrue (list_all in_limits points)
  pub steps : IsTrue (no_repeat points)

-- a polygon of n arcs, whose class is a small number
pub record IsTellablePolygon (n : ℕ) (p : Polygon) : Type 0 where
  pub class : p.row.class < 2 ^ 32
  pub face : p.row.face < 2 ^ 32
  pub some : 1 ≤ length p.rings
  pub sides : All (All (IsSide n)) p.rings

-- arcs and polygons within the limits of a map
pub record IsTellable (t : Transform) (lines : List (List Point)) (polygons : List Polygon) : Type 0 where
  pub transform : IsTrue (is_transform t)
  pub arcs : length lines ≤ MAX_ARCS
  pub points : sum_by length lines ≤ MAX_POINTS
  pub parts : length polygons ≤ MAX_FACES
  pub each_line : All IsTellableLine lines
  pub each_polygon : All (IsTellablePolygon (length lines)) polygons

-- ---- the laws

-- the tree of what is told is read as it was told
abbrev pub TreesAreRead : Type 0
TreesAreRead =
    (t : Transform) (lines : List (List Point)) (polygons : List Polygon) → IsTellable t lines polygons
    → topology_of (topology_data t lines polygons) (codes "map") (codes "class") ≡ Ok (told t lines polygons)

-- and so is its text
abbrev pub TextsAreRead : Type 0
TextsAreRead =
    (t : Transform) (lines : List (List Point)) (polygons : List Polygon) → IsTellable t lines polygons
    → topology (topology_text t lines polygons) (codes "map") (codes "class") ≡ Ok (told t lines polygons)
