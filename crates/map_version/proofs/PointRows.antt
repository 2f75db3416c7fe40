-- The points of a cut, as a loop reads them.
use Rattle.std.proofs.Common.{◌≡◌, ℕ, suc, ◌+◌, ◌-◌, ◌<◌, ◌≤◌, List, [], ◌∷◌, ◌++◌, Option, Some, None, refl}
use Rattle.std.specs.Prelude.{ℤ}
use Rattle.tgap_model.specs.declared.geometry.Point.{Point}
use Rattle.tgap_model.specs.declared.limits.TheConstants.{MAX_COORDINATE}
use Rattle.line_forms.specs.Words.{Row, ◌>>=◌}
use Rattle.line_forms.specs.ListingLines.{coordinate_at, points_at}
use Rattle.plain_io.specs.Fronts.{with_front}
use Rattle.plain_io.proofs.Loops.{one_left, none_left, with_front_more, with_front_stop, with_front_done}
use Rattle.edit_laws.specs.Edits.{point_at}

-- what is read of a point, and of the points after it
abbrev before_rest : (Row → Option (List Point × Row)) → Point × Row → Option (List Point × Row)
before_rest rest p = rest p.1 >>= λ points. Some (p.0 ∷ points.0, points.1)

-- the second coordinate is read in the point or before the rest
by_second : (x : ℤ) (y : Option (ℤ × Row)) (rest : Row → Option (List Point × Row))
    → (y >>= λ b. before_rest rest (record { x = x; y = b.0 }, b.1)) ≡ ((y >>= λ b. Some (record { x = x; y = b.0 }, b.1)) >>= before_rest rest)
by_second x (Some y) rest = refl
by_second x None rest = refl

-- and so is the first one
by_first : (x : Option (ℤ × Row)) (rest : Row → Option (List Point × Row))
    → (x >>= λ a. coordinate_at a.1 >>= λ b. before_rest rest (record { x = a.0; y = b.0 }, b.1))
    ≡ ((x >>= λ a. coordinate_at a.1 >>= λ b. Some (record { x = a.0; y = b.0 }, b.1)) >>= before_rest rest)
by_first (Some x) rest = by_second x.0 (coordinate_at x.1) rest
by_first None rest = refl

next_point : (n : ℕ) (row : Row) → points_at MAX_COORDINATE (suc n) row ≡ (point_at row >>= before_rest (points_at MAX_COORDINATE n))
unfolding points_at
next_point n row = by_first (coordinate_at row) (points_at MAX_COORDINATE n)

-- a point more
pub point_more : (front : List Point) (n i : ℕ) (row : Row) (p : Point) (rest : Row) → i < n → point_at row ≡ Some (p, rest)
    → with_front (front ++ p ∷ []) (points_at MAX_COORDINATE (n - (i + 1)) rest) ≡ with_front front (points_at MAX_COORDINATE (n - i) row)
point_more front n i row p rest lt e =
    with_front_more front p (points_at MAX_COORDINATE (n - (i + 1)) rest) (points_at MAX_COORDINATE (n - i) row) (rw (one_left n i lt, next_point (n - (i + 1)) row, e) refl)

-- no point where there was to be one
pub point_missing : (front : List Point) (n i : ℕ) (row : Row) → i < n → point_at row ≡ None → with_front front (points_at MAX_COORDINATE (n - i) row) ≡ None
point_missing front n i row lt e =
    with_front_stop front (points_at MAX_COORDINATE (n - i) row) (rw (one_left n i lt, next_point (n - (i + 1)) row, e) refl)

-- all points
pub points_read : (front : List Point) (n i : ℕ) (row : Row) → n ≤ i → with_front front (points_at MAX_COORDINATE (n - i) row) ≡ Some (front, row)
unfolding points_at
points_read front n i row le = with_front_done front row (points_at MAX_COORDINATE (n - i) row) (rw (none_left n i le) refl)
