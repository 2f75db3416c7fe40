-- A topology in two steps: its parts, and the map of these.
use Rattle.std.specs.Prelude.{ℕ, List, [], map, length, sum_by, count_by, codes, option_and_then, Result, Ok}
use Rattle.std.specs.Option.{ok_or, is_some}
use Rattle.serde_json.specs.Data.{Data}
use Rattle.serde_json.specs.Find.{get, as_object}
use Rattle.serde_json.specs.View.{view}
use Rattle.tgap_model.specs.declared.topology.RawMap.{RawMap}
use Rattle.tgap_model.specs.declared.fault.LimitKind.TheVariants.{Faces, Arcs, Points}
use Rattle.tgap_model.specs.declared.fault.MapFault.{MapFault}
use Rattle.tgap_model.specs.declared.fault.MapFault.TheVariants.{Shape}
use Rattle.line_forms.specs.Lines.{◌>>=◌}
use Rattle.map_forms.specs.Listing.{within_limit}
use Rattle.line_forms.specs.Json.{ensured, try_fold, items_at, text_at}
use Rattle.topology_forms.specs.Topology.{Quantized, quantized, chosen, arc_read, geometry_read, no_geometries, has_ring, is_format}
use Rattle.topo_read.specs.declared.Parts.{Parts}
use Rattle.topo_read.specs.Positions.{quantized_seen}

-- What of a topology its map is read from.
pub record PartsSeen : Type 0 where
  pub positions : Quantized
  pub arcs : List Data
  pub geometry : Data

abbrev pub parts_seen : Parts → PartsSeen
parts_seen parts = record { positions = quantized_seen parts.positions; arcs = map view parts.arcs.now; geometry = view parts.geometry.now }

-- a JSON object of the type of a topology
abbrev pub format_of : Data → Result (Unit {0}) MapFault
format_of d = do
  top ← ensured (is_some (as_object d)) (Shape 1 0)
  ensured (is_format (text_at (codes "type") d)) (Shape 2 0)

-- the parts, with this object chosen
unfoldable pub parts_of : Data → List ℕ → Result PartsSeen MapFault
parts_of d object = do
  typed ← format_of d
  objects ← ok_or (option_and_then as_object (get (codes "objects") d)) (Shape 3 0)
  arcs ← ok_or (items_at (codes "arcs") d) (Shape 4 0)
  positions ← ok_or (quantized (get (codes "transform") d)) (Shape 5 0)
  geometry ← chosen object objects
  Ok (record { positions = positions; arcs = arcs; geometry = geometry })

-- the map of the parts, with this property as what names classes
unfoldable pub map_of : PartsSeen → List ℕ → Result RawMap MapFault
map_of parts property = do
  few_arcs ← within_limit Arcs (length parts.arcs)
  lines ← try_fold (arc_read parts.positions.deltas) [] parts.arcs
  few_points ← within_limit Points (sum_by length lines)
  walk ← geometry_read 128 (length lines) property no_geometries parts.geometry
  few_faces ← within_limit Faces (count_by has_ring walk.polygons)
  Ok (record { transform = parts.positions.transform; arcs = lines; polygons = walk.polygons })
