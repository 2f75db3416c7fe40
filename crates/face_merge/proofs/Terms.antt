-- The measures of an arc: the length of a rest of the points, and sizes.
use Rattle.std.proofs.Common.{◌≡◌, ◌<◌, ◌≤◌, ℕ, zero, suc, ◌+◌, ◌-◌, ◌*◌, ℤ, ◌-ℤ◌, unsigned_abs, to_z, of_z, List, [], ◌∷◌, length, get_or, drop, refl, arith}
use Rattle.std.specs.Int.{w64}
use Rattle.std.proofs.lemmas.Int.{ints}
use Rattle.std.specs.List.{All, AllByRecursion}
use Rattle.std.proofs.lemmas.List.Elements.{recursion_from_All}
use Rattle.tgap_model.specs.declared.base.BaseArc.{BaseArc}
use Rattle.tgap_model.specs.declared.geometry.Point.{Point}
use Rattle.tgap_model.specs.declared.limits.TheConstants.{MAX_POINTS}
use Rattle.tgap_model.proofs.ShoelaceSums.{shoelace_size}
use Rattle.tgap_model.specs.History.{labelled}
use Rattle.face_merge.specs.Measures.{IsMeasured}
use Rattle.tgap_model.specs.Bounds.{max_coordinate, max_length, IsNear}
use Rattle.tgap_model.specs.Point.{path_length, segment_length}

-- a coordinate within the limits, as the code hands it over
coordinate_is : (a : ℤ) → unsigned_abs a ≤ max_coordinate → to_z w64 (of_z w64 a) ≡ a
coordinate_is a la = omega (arith, ints)

-- ---- what is left to measure, from a point on

-- the length from point k on
path_from : (xs : List Point) (k : ℕ) (d : Point) → suc k < length xs
    → path_length (drop k xs) ≡ segment_length (get_or xs k d) (get_or xs (suc k) d) + path_length (drop (suc k) xs)
path_from [] k d p = absurd (omega arith)
path_from (x ∷ []) k d p = absurd (omega arith)
path_from (x ∷ y ∷ xs) zero d p = refl
path_from (x ∷ y ∷ xs) (suc k) d p = path_from (y ∷ xs) k d (omega arith)

-- the length from the last point on
path_last : (xs : List Point) (k : ℕ) → length xs ≤ suc k → path_length (drop k xs) ≡ 0
path_last [] zero p = refl
path_last [] (suc k) p = refl
path_last (x ∷ []) zero p = refl
path_last (x ∷ y ∷ xs) zero p = absurd (omega arith)
path_last (x ∷ xs) (suc k) p = path_last xs k (omega arith)

-- the length with one more segment, up to point i
pub path_next : (xs : List Point) (i : ℕ) (d : Point) (s t : ℕ) → 1 ≤ i → i < length xs → s + path_length (drop (i - 1) xs) ≡ path_length xs
    → t ≡ segment_length (get_or xs (i - 1) d) (get_or xs i d) → (s + t) + path_length (drop (i + 1 - 1) xs) ≡ path_length xs
path_next xs zero d s t p q h e = absurd (omega arith)
path_next xs (suc k) d s t p q h e =
    let before : suc k - 1 ≡ k = omega arith in
    let after : suc k + 1 - 1 ≡ suc k = omega arith in
    let h' = rw before at h in
    let e' = rw before at e in
    let next = path_from xs k d q in
    rw after (omega (arith, h', e', next))

-- the whole length
pub path_end : (xs : List Point) (i : ℕ) (s : ℕ) → 1 ≤ i → length xs ≤ i → s + path_length (drop (i - 1) xs) ≡ path_length xs → s ≡ path_length xs
path_end xs i s p q h = omega (arith, path_last xs (i - 1) (omega arith))

-- ---- how large the measures get

-- the length of a segment
segment_size : (a b : Point) → IsNear a → IsNear b → segment_length a b ≤ max_length
segment_size a b p q = bounded a.x a.y b.x b.y p.x p.y q.x q.y
  where
    bounded : (ax ay bx by : ℤ) → unsigned_abs ax ≤ max_coordinate → unsigned_abs ay ≤ max_coordinate → unsigned_abs bx ≤ max_coordinate → unsigned_abs by ≤ max_coordinate
        → unsigned_abs (bx -ℤ ax) + unsigned_abs (by -ℤ ay) ≤ max_length
    bounded ax ay bx by p q r s = omega (arith, ints)

-- the length of a row of points
pub path_size : (xs : List Point) → AllByRecursion IsNear xs → path_length xs ≤ length xs * max_length
path_size [] near = omega arith
path_size (x ∷ []) near = omega arith
path_size (x ∷ y ∷ xs) near =
    let here = segment_size x y near.0 near.1.0 in
    let rest = path_size (y ∷ xs) near.1 in
    omega (arith, here, rest)

-- the measures of an arc
pub measured_arc : (a : BaseArc) → All IsNear a.points → length a.points ≤ MAX_POINTS → IsMeasured (labelled a)
measured_arc a near short =
    let each = recursion_from_All IsNear a.points near in
    let area = shoelace_size a.points near in
    let extent = path_size a.points each in
    record { area = omega (arith, area); extent = omega (arith, extent) }
