-- The segments of a row of points by their places, and lines that cross them.
use Rattle.std.proofs.Common.{◌≡◌, ◌≢◌, ℕ, zero, suc, ◌+◌, ◌-◌, ◌<◌, Bool, true, ◌&&◌, ◌||◌, ℤ, pos, ◌+ℤ◌, ◌*ℤ◌, int_lt, int_le, List, [], ◌∷◌, length, reverse, get_or, refl, sym, ap, ap₂, ◌∙◌, arith}
use Rattle.std.specs.Int.{int_min}
use Rattle.std.proofs.lemmas.Int.{ints}
use Rattle.std.proofs.lemmas.List.{get_or-reverse, length-reverse}
use Rattle.tgap_model.specs.declared.geometry.Point.{Point}
use Rattle.tgap_model.specs.declared.geometry.Seg.{Seg}
use Rattle.tgap_model.specs.Segment.{line_after, passes, crosses}
use Rattle.ring_walk.specs.Areas.{segments_of, line_of}

-- the segment at a place
pub segment_of : (points : List Point) (i : ℕ) (d : Seg) (e : Point) → i + 1 < length points → record { a = get_or points i e; b = get_or points (i + 1) e } ≡ get_or (segments_of points) i d
segment_of [] i d e l = absurd (omega arith)
segment_of (p ∷ []) i d e l = absurd (omega arith)
segment_of (p ∷ q ∷ points) zero d e l = refl
segment_of (p ∷ q ∷ points) (suc i) d e l =
    let next : suc i + 1 ≡ suc (i + 1) = omega arith in
    ap (λ (n : ℕ). record { a = get_or (q ∷ points) i e; b = get_or (p ∷ q ∷ points) n e }) next ∙ segment_of (q ∷ points) i d e (omega arith)

pub segment_back : (points : List Point) (i : ℕ) (d : Seg) (e : Point) → i + 1 < length points
    → record { a = get_or points (length points - 1 - i) e; b = get_or points (length points - 2 - i) e } ≡ get_or (segments_of (reverse points)) i d
segment_back points i d e l =
    let second : length points - 1 - (i + 1) ≡ length points - 2 - i = omega arith in
    ap₂ (λ (p q : Point). record { a = p; b = q }) (sym (get_or-reverse points i e (omega arith))) (ap (λ n. get_or points n e) (sym second) ∙ sym (get_or-reverse points (i + 1) e (omega arith)))
    ∙ segment_of (reverse points) i d e (omega (arith, l, length-reverse points))

-- the line one half beyond v passes between u and w
pub passes_after : (v u w : ℤ) → (int_le u v && int_lt v w) ≡ passes (line_after v) u w
passes_after v u w = ap₂ (λ (a b : Bool). a && b) low high
  where
    low : int_le u v ≡ int_lt (pos 2 *ℤ u) (pos 2 *ℤ v +ℤ pos 1)
    low = grind (arith, ints)

    high : int_lt v w ≡ int_lt (pos 2 *ℤ v +ℤ pos 1) (pos 2 *ℤ w)
    high = grind (arith, ints)

pub crosses_after : (v : ℤ) (s : Seg) (forth back : Bool) → forth ≡ (int_le s.a.x v && int_lt v s.b.x) → back ≡ (int_le s.b.x v && int_lt v s.a.x) → (forth || back) ≡ crosses (line_after v) s
crosses_after v s forth back e f = ap₂ (λ (a b : Bool). a || b) (e ∙ passes_after v s.a.x s.b.x) (f ∙ passes_after v s.b.x s.a.x)

-- a segment that is not vertical crosses its own line
pub own_line : (s : Seg) → s.a.x ≢ s.b.x → crosses (line_of s) s ≡ true
own_line s n =
    sym (crosses_after (int_min s.a.x s.b.x) s _ _ refl refl) ∙ by s.a.x s.b.x n
  where
    by : (u w : ℤ) → u ≢ w → ((int_le u (int_min u w) && int_lt (int_min u w) w) || (int_le w (int_min u w) && int_lt (int_min u w) u)) ≡ true
    by u w n = grind (arith, ints)
