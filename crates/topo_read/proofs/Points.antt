-- The point of a position, coordinate by coordinate.
use Rattle.std.proofs.Common.{◌≡◌, Bool, true, false, Option, Some, None, option_map, option_and_then, refl}
use Rattle.std.specs.Prelude.{ℤ, ◌+ℤ◌, ◌&&◌, if◌then◌else◌, neg_ℤ}
use Rattle.tgap_model.specs.declared.geometry.Point.{Point}
use Rattle.tgap_model.specs.declared.limits.TheConstants.{MAX_COORDINATE}
use Rattle.tgap_model.specs.Base.{within}
use Rattle.topology_forms.specs.Topology.{point_of, limited}
use Rattle.topo_read.specs.Arcs.{coordinate_of}

-- a point of two coordinates
abbrev pub both : Option ℤ → Option ℤ → Option Point
both x y = option_and_then (λ a. option_map (λ b. record { x = a; y = b }) y) x

-- both coordinates are within the limits, or the point is nowhere
both_within : (p q : Bool) (x y : ℤ) → (if p && q then Some (record { x = x; y = y }) else None) ≡ both (if p then Some x else None) (if q then Some y else None)
both_within true true x y = refl
both_within true false x y = refl
both_within false q x y = refl

-- the point of a position, coordinate by coordinate
pub point_by_coordinates : (deltas : Bool) (at : Point) (x y : ℤ)
    → limited (point_of deltas at (x, y)) ≡ both (coordinate_of (if deltas then at.x +ℤ x else x)) (coordinate_of (if deltas then at.y +ℤ y else y))
point_by_coordinates true at x y = both_within (within (neg_ℤ MAX_COORDINATE) MAX_COORDINATE (at.x +ℤ x)) (within (neg_ℤ MAX_COORDINATE) MAX_COORDINATE (at.y +ℤ y)) (at.x +ℤ x) (at.y +ℤ y)
point_by_coordinates false at x y = both_within (within (neg_ℤ MAX_COORDINATE) MAX_COORDINATE x) (within (neg_ℤ MAX_COORDINATE) MAX_COORDINATE y) x y

-- the second coordinate is nowhere
pub no_second : (x : Option ℤ) → both x None ≡ None
no_second None = refl
no_second (Some x) = refl
