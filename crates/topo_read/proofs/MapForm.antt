-- The form of a topology that was read.
use Rattle.std.proofs.Common.{◌≡◌, ℕ, ◌≤◌, true, List, length, sum_by, arith}
use Rattle.std.specs.Prelude.{nat_le, count_by}
use Rattle.std.specs.List.{list_all}
use Rattle.std.proofs.lemmas.Bool.{and_from}
use Rattle.tgap_model.specs.declared.geometry.Point.{Point}
use Rattle.tgap_model.specs.declared.base.Transform.{Transform}
use Rattle.tgap_model.specs.declared.topology.RawPolygon.{RawPolygon}
use Rattle.tgap_model.specs.declared.limits.TheConstants.{MAX_ARCS, MAX_POINTS, MAX_FACES}
use Rattle.topology_forms.specs.Topology.{has_ring}
use Rattle.topology_forms.specs.Rings.{is_raw_arc, is_raw_ring, is_raw_map}

-- within a limit
within : (n limit : ℕ) → n ≤ limit → nat_le n limit ≡ true
within n limit le = grind arith

-- arcs and polygons that keep to the limits are a topology
pub raw_map : (t : Transform) (arcs : List (List Point)) (polygons : List RawPolygon)
    → length arcs ≤ MAX_ARCS → sum_by length arcs ≤ MAX_POINTS → list_all is_raw_arc arcs ≡ true → count_by has_ring polygons ≤ MAX_FACES → list_all (λ (p : RawPolygon). list_all (is_raw_ring (length arcs)) p.rings) polygons ≡ true
    → is_raw_map (record { transform = t; arcs = arcs; polygons = polygons }) ≡ true
unfolding is_raw_map
raw_map t arcs polygons few_arcs few_points form few_faces rings =
    and_from _ _ (and_from _ _ (and_from _ _ (and_from _ _ (within (length arcs) MAX_ARCS few_arcs) (within (sum_by length arcs) MAX_POINTS few_points)) form) (within (count_by has_ring polygons) MAX_FACES few_faces)) rings
