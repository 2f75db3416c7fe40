-- The steps of the walk over the geometries of a topology, beside the definition of the walk.
use Rattle.std.specs.Prelude.{ℕ, Bool, List, map, Result, Ok, Err}
use Rattle.std.specs.List.{list_all}
use Rattle.std.specs.Option.{ok_or, is_some}
use Rattle.std.specs.Borrow.{Bor}
use Rattle.serde_json.specs.Data.{Data}
use Rattle.serde_json.specs.Find.{as_object}
use Rattle.serde_json.specs.View.{view}
use Rattle.serde_json.specs.declared.value.Value.{Value}
use Rattle.tgap_model.specs.declared.topology.RawPolygon.{RawPolygon}
use Rattle.tgap_model.specs.declared.fault.MapFault.{MapFault}
use Rattle.tgap_model.specs.declared.fault.MapFault.TheVariants.{Shape}
use Rattle.line_forms.specs.Lines.{◌>>=◌}
use Rattle.line_forms.specs.Json.{ensured, try_fold}
use Rattle.topology_forms.specs.Topology.{Walk, met, Geometry, collection, polygon, polygons, other, geometry_of, members_of, shapes_of, kind_of, polygon_read}
use Rattle.topology_forms.specs.Rings.{is_raw_ring}
use Rattle.topo_read.specs.declared.geometry.walk.Walk.{Walk as WalkInMemory}
use Rattle.topo_read.specs.declared.geometry.shapes.GeometryType.{GeometryType}
use Rattle.topo_read.specs.declared.geometry.shapes.GeometryType.TheVariants.{Collection, Polygon, MultiPolygon, Other}

-- the walk that is in memory
abbrev pub walk_of : WalkInMemory → Walk
walk_of walk = record { geometries = walk.geometries; rings = walk.rings; polygons = walk.polygons }

-- what the type that was found is to the walk
abbrev pub named_type : GeometryType → Geometry
named_type Collection = collection
named_type Polygon = polygon
named_type MultiPolygon = polygons
named_type Other = other

-- each ring of the polygons has indexes that name one of n arcs, and fewer than 2^32 - 1 of them
abbrev pub are_raw : ℕ → List RawPolygon → Bool
are_raw n ps = list_all (λ p. list_all (is_raw_ring n) p.rings) ps

-- the geometries in a geometry of this type, which has this number
abbrev pub members_read : Geometry → ℕ → Data → Result (List Data) MapFault
members_read type number d =
    ensured (is_some (as_object d)) (Shape 8 number) >>= λ top. ok_or (members_of type d) (Shape 8 number)

-- a geometry without those in it: the geometries in it, and the walk after its own polygons
unfoldable pub own_read : ℕ → List ℕ → Walk → Data → Result (List Data × Walk) MapFault
own_read n property walk d = do
  members ← members_read (geometry_of d) walk.geometries d
  shapes ← ok_or (shapes_of (geometry_of d) d) (Shape 9 walk.geometries)
  own ← try_fold (polygon_read n (kind_of property d)) (met walk) shapes
  Ok (members, own)

-- the values that were found
abbrev pub viewed : {F : Type 0} → Result (Bor (List Value)) F → Result (List Data) F
viewed (Ok items) = Ok (map view items.now)
viewed (Err e) = Err e
