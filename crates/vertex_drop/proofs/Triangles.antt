-- Of a closed row of four points whose triangle has an area none goes: across each corner there is a segment of the row.
use Rattle.std.proofs.Common.{◌≡◌, ◌<◌, ◌≤◌, None, Some, if◌then◌else◌, ℕ, ℤ, pos, ◌*◌, ◌==◌, ◌&&◌, not, int_le, unsigned_abs, Bool, true, false, List, [], ◌∷◌, ◌++◌, length, refl, sym, ap, ◌∙◌, true≢false, arith}
use Rattle.std.specs.List.{list_all}
use Rattle.std.specs.Cmp.Derive.{both_true}
use Rattle.std.proofs.lemmas.Bool.{and_parts, or_from, or_left, or_right, and_left, and_right, eqb-true, eq-eqb, ne_eqb}
use Rattle.std.proofs.lemmas.List.{append-nil}
use Rattle.std.proofs.lemmas.List.Folds.{list_all-append}
use Rattle.tgap_model.specs.declared.geometry.Point.{Point}
use Rattle.tgap_model.specs.declared.geometry.Seg.{Seg}
use Rattle.tgap_model.specs.Base.{same_point}
use Rattle.tgap_model.specs.Clear.{is_base_corner, is_clear}
use Rattle.tgap_model.specs.Point.{area2, cross as cross_of}
use Rattle.tgap_model.specs.Removals.{Swept, is_removable, sweep_points}
use Rattle.tgap_model.proofs.Points.{same_point-true, same_point-from}
use Rattle.lemmas.proofs.Polynomials.{same_value, cross}
use Rattle.point_rope.specs.Corners.{least_area}
use Rattle.vertex_drop.specs.Corners.{point_at, is_closed, is_triangle, least_corner}
use Rattle.vertex_drop.proofs.Swept.{from_kept}

-- the corners in turn
cross_turn : (a b c : Point) → cross_of b c a ≡ cross_of a b c
cross_turn a b c = same_value (a.x ∷ a.y ∷ b.x ∷ b.y ∷ c.x ∷ c.y ∷ []) (cross 1 2 0) (cross 0 1 2) refl

-- a segment between both base corners is not clear of the triangle
not_clear : (a b c : Point) (s : Seg) → is_base_corner a c s.a ≡ true → is_base_corner a c s.b ≡ true → is_clear a b c s ≡ false
unfolding is_clear
not_clear a b c s e f = and_left (not (is_base_corner a c s.a && is_base_corner a c s.b)) _ (ap not (both_true e f))

false_of_not : (t : Bool) → not t ≡ true → t ≡ false
false_of_not false h = refl
false_of_not true h = absurd (true≢false (sym h))

module _ (ratio : ℕ) (area : ℤ) (others : List Seg) where
  -- so the corner stays
  blocked : (a b c : Point) (s : Seg) → (area2 a b c == 0) ≡ false → is_base_corner a c s.a ≡ true → is_base_corner a c s.b ≡ true
      → is_removable ratio area (others ++ s ∷ []) a b c ≡ false
  unfolding is_removable
  blocked a b c s n e f =
      or_from (area2 a b c == 0) (int_le (pos (ratio * area2 a b c)) area && list_all (is_clear a b c) (others ++ s ∷ [])) n
      (and_right (int_le (pos (ratio * area2 a b c)) area) (list_all (is_clear a b c) (others ++ s ∷ []))
      (list_all-append (is_clear a b c) others (s ∷ [])
      ∙ and_right (list_all (is_clear a b c) others) (is_clear a b c s && true) (and_left (is_clear a b c s) true (not_clear a b c s e f))))

  pub triangle_stays : (points : List Point) → is_triangle points ≡ true → sweep_points ratio area others points ≡ record { kept = points; gone = [] }
  triangle_stays points h = by points four parts.1
    where
      parts : ((length points == 4) ≡ true) × ((same_point (point_at points 0) (point_at points 3) && not (area2 (point_at points 0) (point_at points 1) (point_at points 2) == 0)) ≡ true)
      parts = and_parts (length points == 4) (same_point (point_at points 0) (point_at points 3) && not (area2 (point_at points 0) (point_at points 1) (point_at points 2) == 0)) h

      four : length points ≡ 4
      four = eqb-true (length points) 4 parts.0

      by : (points : List Point) → length points ≡ 4
          → (same_point (point_at points 0) (point_at points 3) && not (area2 (point_at points 0) (point_at points 1) (point_at points 2) == 0)) ≡ true
          → sweep_points ratio area others points ≡ record { kept = points; gone = [] }
      by [] n t = absurd (omega (arith, n))
      by (a ∷ []) n t = absurd (omega (arith, n))
      by (a ∷ b ∷ []) n t = absurd (omega (arith, n))
      by (a ∷ b ∷ c ∷ []) n t = absurd (omega (arith, n))
      by (a ∷ b ∷ c ∷ d ∷ e ∷ points) n t = absurd (omega (arith, n))
      by (a ∷ b ∷ c ∷ d ∷ []) n t =
          let both = and_parts (same_point a d) (not (area2 a b c == 0)) t in
          let same : a ≡ d = same_point-true a d both.0 in
          let flat : (area2 a b c == 0) ≡ false = false_of_not (area2 a b c == 0) both.1 in
          let turned : (area2 b c d == 0) ≡ false = ap (λ (p : Point). area2 b c p == 0) (sym same) ∙ ap (λ (z : ℤ). unsigned_abs z == 0) (cross_turn a b c) ∙ flat in
          let one =
          ap (λ (l : List Seg). is_removable ratio area (l ++ record { a = c; b = d } ∷ []) a b c) (append-nil others)
          ∙ blocked a b c (record { a = c; b = d }) flat (or_right (same_point c a) (same_point c c) (same_point-from c c refl))
          (or_left (same_point d a) (same_point d c) (same_point-from d a (sym same))) in
          let two =
          ap (λ (l : List Seg). is_removable ratio area l b c d) (append-nil (others ++ record { a = a; b = b } ∷ []))
          ∙ blocked b c d (record { a = a; b = b }) turned (or_right (same_point a b) (same_point a d) both.0)
          (or_left (same_point b b) (same_point b d) (same_point-from b b refl)) in
          from_kept ratio area others [] a b c (d ∷ []) one
          ∙ ap (λ (s : Swept). record { kept = a ∷ s.kept; gone = s.gone }) (from_kept ratio area others (record { a = a; b = b } ∷ []) b c d [] two)

-- ---- the least corner of a closed row of four points

-- a triangle is such a row with an area
triangle_is : (points : List Point) → is_triangle points ≡ (is_closed points && not (area2 (point_at points 0) (point_at points 1) (point_at points 2) == 0))
triangle_is points = by (length points == 4)
  where
    by : (t : Bool) → (t && (same_point (point_at points 0) (point_at points 3) && not (area2 (point_at points 0) (point_at points 1) (point_at points 2) == 0)))
        ≡ ((t && same_point (point_at points 0) (point_at points 3)) && not (area2 (point_at points 0) (point_at points 1) (point_at points 2) == 0))
    by true = refl
    by false = refl

-- both corners of the row have the area of the triangle
closed_area : (points : List Point) → is_closed points ≡ true → least_area points ≡ Some (area2 (point_at points 0) (point_at points 1) (point_at points 2))
closed_area points h =
    let parts = and_parts (length points == 4) (same_point (point_at points 0) (point_at points 3)) h in
    by points (eqb-true (length points) 4 parts.0) parts.1
  where
    by : (points : List Point) → length points ≡ 4 → same_point (point_at points 0) (point_at points 3) ≡ true
        → least_area points ≡ Some (area2 (point_at points 0) (point_at points 1) (point_at points 2))
    by [] n t = absurd (omega (arith, n))
    by (a ∷ []) n t = absurd (omega (arith, n))
    by (a ∷ b ∷ []) n t = absurd (omega (arith, n))
    by (a ∷ b ∷ c ∷ []) n t = absurd (omega (arith, n))
    by (a ∷ b ∷ c ∷ d ∷ e ∷ points) n t = absurd (omega (arith, n))
    by (a ∷ b ∷ c ∷ d ∷ []) n t =
        let turned : area2 b c d ≡ area2 a b c =
        ap (λ (p : Point). area2 b c p) (sym (same_point-true a d t)) ∙ ap unsigned_abs (cross_turn a b c) in
        ap Some (omega (arith, turned))

module _ (points : List Point) where
  abbrev flat : Bool
  flat = area2 (point_at points 0) (point_at points 1) (point_at points 2) == 0

  -- what the row's least corner is, by the two tests
  least_corner_is : least_corner points ≡ (if is_closed points && not flat then None else least_area points)
  unfolding least_corner
  least_corner_is = ap (λ (t : Bool). if t then None else least_area points) (triangle_is points)

  pub closed_has_none : (n : ℕ) → least_area points ≡ Some n → 0 < n → is_closed points ≡ true → None ≡ least_corner points
  closed_has_none n least some closed = sym (least_corner_is ∙ ap (λ (t : Bool). if t then None else least_area points) (both_true closed (ap not apart)))
    where
      same : {x y : ℕ} → Some x ≡ Some y → x ≡ y
      same e = cc

      apart : flat ≡ false
      apart = ne_eqb _ 0 (λ e. let f = same (sym least ∙ closed_area points closed) in omega (arith, e, f, some))

  pub open_has_least : is_closed points ≡ false → least_area points ≡ least_corner points
  open_has_least e = sym (least_corner_is ∙ ap (λ (t : Bool). if t && not flat then None else least_area points) e)

  pub flat_has_least : (n : ℕ) → least_area points ≡ Some n → n ≤ 0 → least_area points ≡ least_corner points
  flat_has_least n least none = by (is_closed points) refl
    where
      same : {x y : ℕ} → Some x ≡ Some y → x ≡ y
      same e = cc

      by : (t : Bool) → is_closed points ≡ t → least_area points ≡ least_corner points
      by false e = open_has_least e
      by true e =
          let zero_area = eq-eqb (area2 (point_at points 0) (point_at points 1) (point_at points 2)) 0 (let f = same (sym least ∙ closed_area points e) in omega (arith, f, none)) in
          sym (least_corner_is ∙ ap (λ (t : Bool). if t then None else least_area points) (and_right (is_closed points) (not flat) (ap not zero_area)))

  pub few_have_none : least_area points ≡ None → least_area points ≡ least_corner points
  few_have_none e = by (is_closed points && not flat) ∙ sym least_corner_is
    where
      by : (t : Bool) → least_area points ≡ (if t then None else least_area points)
      by true = e
      by false = refl
