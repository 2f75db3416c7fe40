-- The boxes of the segments of a row of points, up to a point.
use Rattle.std.proofs.Common.{◌≡◌, ℕ, zero, suc, ◌+◌, ◌-◌, ◌<◌, ◌≤◌, List, [], ◌∷◌, ◌++◌, length, take, get_or, refl, sym, ap, ◌∙◌, arith}
use Rattle.tgap_model.specs.declared.geometry.Point.{Point}
use Rattle.grid_index.specs.Boxes.{segment_box}
use Rattle.grid_index.specs.Live.{segment_boxes}

-- one point more gives one segment more
pub segment_boxes_more : (points : List Point) (i : ℕ) (d e : Point) → suc i < length points
    → segment_boxes (take (suc (suc i)) points) ≡ segment_boxes (take (suc i) points) ++ segment_box (get_or points i d) (get_or points (suc i) e) ∷ []
segment_boxes_more [] i d e l = absurd (omega arith)
segment_boxes_more (a ∷ []) i d e l = absurd (omega arith)
segment_boxes_more (a ∷ b ∷ points) zero d e l = refl
segment_boxes_more (a ∷ b ∷ points) (suc i) d e l = ap (λ boxes. segment_box a b ∷ boxes) (segment_boxes_more (b ∷ points) i d e (omega arith))

-- there are not more of them than points
pub length-segment_boxes : (points : List Point) → length (segment_boxes points) ≤ length points
length-segment_boxes [] = omega arith
length-segment_boxes (a ∷ []) = omega arith
length-segment_boxes (a ∷ b ∷ points) = let h = length-segment_boxes (b ∷ points) in omega arith

pub segment_boxes_at : (points : List Point) (i : ℕ) (d e : Point) → 1 ≤ i → i < length points
    → segment_boxes (take (i + 1) points) ≡ segment_boxes (take i points) ++ segment_box (get_or points (i - 1) d) (get_or points i e) ∷ []
segment_boxes_at points zero d e le l = absurd (omega arith)
segment_boxes_at points (suc i) d e le l =
    let f : suc i - 1 ≡ i = omega arith in
    let g : suc i + 1 ≡ suc (suc i) = omega arith in
    ap (λ k. segment_boxes (take k points)) g ∙ segment_boxes_more points i d e l ∙ ap (λ k. segment_boxes (take (suc i) points) ++ segment_box (get_or points k d) (get_or points (suc i) e) ∷ []) (sym f)
