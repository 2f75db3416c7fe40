-- The segments of a row of points.
use Rattle.std.proofs.Common.{◌≡◌, ℕ, zero, suc, ◌+◌, ◌<◌, List, [], ◌∷◌, ◌++◌, take, drop, length, get_or, All, refl, sym, ap, ◌∙◌, arith}
use Rattle.std.proofs.lemmas.List.{at_drop_more}
use Rattle.std.proofs.lemmas.List.Elements.{All-head, All-tail, All-nil, All-cons}
use Rattle.tgap_model.specs.declared.geometry.Point.{Point}
use Rattle.tgap_model.specs.declared.geometry.Seg.{Seg}
use Rattle.tgap_model.specs.declared.geometry.Window.{Window}
use Rattle.tgap_model.specs.Removals.{path}
use Rattle.point_rope.specs.Held.{IsNearPoint, IsHeld}
use Rattle.vertex_drop.specs.Held.{IsHeldSegment}

-- the segment from a place of a row to the next one
abbrev pub segment_at : List Point → ℕ → Point → Seg
segment_at points i d = record { a = get_or points i d; b = get_or points (i + 1) d }

-- the first segment from a place on
pub path_at : (points : List Point) (i : ℕ) (d : Point) → i + 1 < length points → path (drop i points) ≡ segment_at points i d ∷ path (drop (i + 1) points)
path_at points i d l =
    at_drop_more path points i d (omega (arith, l))
    ∙ at_drop_more (λ (rest : List Point). path (get_or points i d ∷ rest)) points (i + 1) d l
    ∙ ap (λ (rest : List Seg). segment_at points i d ∷ rest) (sym (at_drop_more path points (i + 1) d l))

more_from : (points : List Point) (i : ℕ) (d : Point) → suc i < length points
    → path (take (suc (suc i)) points) ≡ path (take (suc i) points) ++ record { a = get_or points i d; b = get_or points (suc i) d } ∷ []
more_from [] i d l = absurd (omega (arith, l))
more_from (a ∷ []) i d l = absurd (omega (arith, l))
more_from (a ∷ b ∷ points) zero d l = refl
more_from (a ∷ b ∷ points) (suc i) d l = ap (λ (rest : List Seg). record { a = a; b = b } ∷ rest) (more_from (b ∷ points) i d (omega (arith, l)))

-- one segment more
pub path_more : (points : List Point) (i j : ℕ) (d : Point) → j ≡ i + 1 → j < length points
    → path (take (j + 1) points) ≡ path (take j points) ++ record { a = get_or points i d; b = get_or points j d } ∷ []
path_more points i j d is l =
    let one : suc i ≡ j = omega (arith, is) in
    let two : suc (suc i) ≡ j + 1 = omega (arith, is) in
    ap (λ (n : ℕ). path (take n points)) (sym two) ∙ more_from points i d (omega (arith, l, is))
    ∙ ap (λ (n : ℕ). path (take n points) ++ record { a = get_or points i d; b = get_or points n d } ∷ []) one

-- the segments of points that a box holds
pub path_held : (box : Window) (points : List Point) → All IsNearPoint points → All (IsHeld box) points → All (IsHeldSegment box) (path points)
path_held box [] near held = All-nil (IsHeldSegment box)
path_held box (a ∷ []) near held = All-nil (IsHeldSegment box)
path_held box (a ∷ b ∷ points) near held =
    let near_rest = All-tail IsNearPoint a (b ∷ points) near in
    let held_rest = All-tail (IsHeld box) a (b ∷ points) held in
    All-cons (IsHeldSegment box) (record { a = a; b = b }) (path (b ∷ points))
    (record {
      near = (All-head IsNearPoint a (b ∷ points) near, All-head IsNearPoint b points near_rest);
      held_a = All-head (IsHeld box) a (b ∷ points) held;
      held_b = All-head (IsHeld box) b points held_rest;
    })
    (path_held box (b ∷ points) near_rest held_rest)
