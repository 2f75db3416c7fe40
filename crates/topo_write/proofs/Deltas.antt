-- The differences of the points of a row, by their places.
use Rattle.std.proofs.Common.{◌≡◌, ℕ, zero, suc, ◌+◌, ◌<◌, ◌-ℤ◌, List, [], ◌∷◌, length, get_or, refl, ap, ◌∙◌, arith}
use Rattle.serde_json.specs.Data.{Data}
use Rattle.tgap_model.specs.declared.geometry.Point.{Point}
use Rattle.ring_walk.specs.Sides.{origin}
use Rattle.topo_write.specs.Topology.{deltas, pair}

-- the point in front of a place; in front of the first it is the origin
abbrev pub point_after : Point → List Point → ℕ → Point
point_after at points zero = at
point_after at [] (suc i) = at
point_after at (p ∷ points) (suc i) = point_after p points i

abbrev pub point_in_front : List Point → ℕ → Point
point_in_front points i = point_after origin points i

pub length-deltas : (at : Point) (points : List Point) → length (deltas at points) ≡ length points
length-deltas at [] = refl
length-deltas at (p ∷ points) = ap suc (length-deltas p points)

pub delta_at : (at : Point) (points : List Point) (i : ℕ) (d : Data) (e : Point) → i < length points
    → get_or (deltas at points) i d ≡ pair ((get_or points i e).x -ℤ (point_after at points i).x) ((get_or points i e).y -ℤ (point_after at points i).y)
delta_at at [] i d e l = absurd (omega arith)
delta_at at (p ∷ points) zero d e l = refl
delta_at at (p ∷ points) (suc i) d e l = delta_at p points i d e (omega arith)

pub next_in_front : (at : Point) (points : List Point) (i : ℕ) (e : Point) → i < length points → get_or points i e ≡ point_after at points (i + 1)
next_in_front at [] i e l = absurd (omega arith)
next_in_front at (p ∷ points) zero e l = refl
next_in_front at (p ∷ points) (suc i) e l =
    let place : suc (i + 1) ≡ suc i + 1 = omega arith in
    next_in_front p points i e (omega arith) ∙ ap (point_after at (p ∷ points)) place
