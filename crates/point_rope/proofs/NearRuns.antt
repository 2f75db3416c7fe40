-- Which segments of a row meet an area, by those of its parts.
use Rattle.std.proofs.Common.{◌≡◌, ℕ, suc, ◌+◌, ◌-◌, ◌≤◌, ◌<◌, List, [], ◌∷◌, ◌++◌, length, take, get_or, map, min, Bool, true, false, Option, None, Some, option_to_list, All, append_assoc, refl, sym, ap, ◌∙◌, arith}
use Rattle.std.proofs.lemmas.Int.{ints, int_min_is, int_max_is}
use Rattle.std.proofs.lemmas.List.{length-take-le, map-append}
use Rattle.std.proofs.lemmas.List.Elements.{All-nil, All-cons, All-head, All-tail}
use Rattle.tgap_model.specs.declared.geometry.Point.{Point}
use Rattle.tgap_model.specs.declared.geometry.Window.{Window}
use Rattle.grid_index.specs.Boxes.{meets, segment_box}
use Rattle.grid_index.specs.declared.live.SegmentPlace.{SegmentPlace}
use Rattle.grid_index.specs.Near.{cons_if, boxes_near, near_boxes}
use Rattle.grid_index.specs.Live.{segment_boxes}
use Rattle.grid_index.proofs.Pieces.{segment_boxes_at}
use Rattle.grid_index.proofs.Finding.{none_near}
use Rattle.grid_index.specs.Boxes.{Covers}
use Rattle.point_rope.specs.Ends.{last_one}
use Rattle.point_rope.specs.Held.{IsHeld}

-- a segment of the edge with a key
abbrev pub segment_of : ℕ → ℕ → SegmentPlace
segment_of key n = record { key = key; place = n }

cons_if-append : (b : Bool) (x : ℕ) (xs ys : List ℕ) → cons_if b x (xs ++ ys) ≡ cons_if b x xs ++ ys
cons_if-append true x xs ys = refl
cons_if-append false x xs ys = refl

pub boxes_near-append : (area : Window) (k : ℕ) (xs ys : List Window) → boxes_near area k (xs ++ ys) ≡ boxes_near area k xs ++ boxes_near area (k + length xs) ys
boxes_near-append area k [] ys = ap (λ (n : ℕ). boxes_near area n ys) (omega arith)
boxes_near-append area k (x ∷ xs) ys =
    let next : k + 1 + length xs ≡ k + suc (length xs) = omega arith in
    ap (cons_if (meets area x) k) (boxes_near-append area (k + 1) xs ys ∙ ap (λ (n : ℕ). boxes_near area (k + 1) xs ++ boxes_near area n ys) next)
    ∙ cons_if-append (meets area x) k (boxes_near area (k + 1) xs) (boxes_near area (k + suc (length xs)) ys)

-- a row has a segment less than points
pub count_boxes : (points : List Point) → length (segment_boxes points) ≡ length points - 1
count_boxes [] = omega arith
count_boxes (a ∷ []) = omega arith
count_boxes (a ∷ b ∷ points) = omega (arith, count_boxes (b ∷ points))

-- one segment more
pub near_more : (area : Window) (place : ℕ) (points : List Point) (i : ℕ) (d e : Point) → 1 ≤ i → i < length points
    → boxes_near area place (segment_boxes (take (i + 1) points))
    ≡ boxes_near area place (segment_boxes (take i points)) ++ boxes_near area (place + i - 1) (segment_boxes (get_or points (i - 1) d ∷ get_or points i e ∷ []))
near_more area place points i d e first short =
    let box = segment_box (get_or points (i - 1) d) (get_or points i e) in
    let count : place + length (segment_boxes (take i points)) ≡ place + i - 1 = omega (arith, count_boxes (take i points), length-take-le i points (omega (arith, short)), first) in
    ap (boxes_near area place) (segment_boxes_at points i d e first short)
    ∙ boxes_near-append area place (segment_boxes (take i points)) (box ∷ [])
    ∙ ap (λ (n : ℕ). boxes_near area place (segment_boxes (take i points)) ++ boxes_near area n (box ∷ [])) count

-- ---- two rows

segment_boxes-append : (xs ys : List Point) → segment_boxes (xs ++ ys) ≡ segment_boxes xs ++ segment_boxes (last_one xs ++ ys)
segment_boxes-append [] ys = refl
segment_boxes-append (a ∷ []) ys = refl
segment_boxes-append (a ∷ b ∷ xs) ys = ap (λ (boxes : List Window). segment_box a b ∷ boxes) (segment_boxes-append (b ∷ xs) ys)

-- the segment between the rows, and those of the second row
seam_boxes : (e : Option Point) (ys : List Point) → segment_boxes (option_to_list e ++ ys) ≡ segment_boxes (option_to_list e ++ take 1 ys) ++ segment_boxes ys
seam_boxes None [] = refl
seam_boxes None (y ∷ ys) = refl
seam_boxes (Some p) [] = refl
seam_boxes (Some p) (y ∷ ys) = refl

count_last : (xs : List Point) → length (last_one xs) ≡ min (length xs) 1
count_last [] = refl
count_last (a ∷ []) = refl
count_last (a ∷ b ∷ xs) = omega (arith, count_last (b ∷ xs))

-- the place of the second row's first segment
inner_near : (area : Window) (e : Option Point) (xs ys : List Point) → option_to_list e ≡ last_one xs
    → boxes_near area (length xs - 1 + length (segment_boxes (option_to_list e ++ take 1 ys))) (segment_boxes ys) ≡ boxes_near area (length xs) (segment_boxes ys)
inner_near area e xs [] is = refl
inner_near area None xs (y ∷ ys) is =
    let none : length xs ≡ 0 = omega (arith, ap (λ (l : List Point). length l) is, count_last xs) in
    ap (λ (n : ℕ). boxes_near area n (segment_boxes (y ∷ ys))) (omega (arith, none))
inner_near area (Some p) xs (y ∷ ys) is =
    let some : 1 ≤ length xs = omega (arith, ap (λ (l : List Point). length l) is, count_last xs) in
    ap (λ (n : ℕ). boxes_near area n (segment_boxes (y ∷ ys))) (omega (arith, some))

-- what is near of two rows: of the first one, between them, and of the second one
pub near_both : (area : Window) (e : Option Point) (xs ys : List Point) → option_to_list e ≡ last_one xs
    → near_boxes area (segment_boxes (xs ++ ys))
    ≡ (near_boxes area (segment_boxes xs) ++ boxes_near area (length xs - 1) (segment_boxes (option_to_list e ++ take 1 ys))) ++ boxes_near area (length xs) (segment_boxes ys)
near_both area e xs ys is =
    let first = segment_boxes xs in
    let seam = segment_boxes (option_to_list e ++ take 1 ys) in
    let second = segment_boxes ys in
    let all : segment_boxes (xs ++ ys) ≡ first ++ (seam ++ second) =
    segment_boxes-append xs ys ∙ ap (λ (zs : List Point). first ++ segment_boxes (zs ++ ys)) (sym is) ∙ ap (λ (boxes : List Window). first ++ boxes) (seam_boxes e ys) in
    let place : 0 + length first ≡ length xs - 1 = omega (arith, count_boxes xs) in
    ap (boxes_near area 0) all ∙ boxes_near-append area 0 first (seam ++ second)
    ∙ ap (λ (n : ℕ). boxes_near area 0 first ++ boxes_near area n (seam ++ second)) place
    ∙ ap (λ (found : List ℕ). boxes_near area 0 first ++ found) (boxes_near-append area (length xs - 1) seam second ∙ ap (λ (found : List ℕ). boxes_near area (length xs - 1) seam ++ found) (inner_near area e xs ys is))
    ∙ sym (append_assoc (boxes_near area 0 first) (boxes_near area (length xs - 1) seam) (boxes_near area (length xs) second))

-- the same of segments, where the second row begins at this place
pub found_both : (key : ℕ) (area : Window) (e : Option Point) (xs ys : List Point) (place : ℕ) (before found seam all : List SegmentPlace) → option_to_list e ≡ last_one xs
    → place ≡ length xs
    → found ≡ before ++ map (segment_of key) (near_boxes area (segment_boxes xs))
    → seam ≡ found ++ map (segment_of key) (boxes_near area (place - 1) (segment_boxes (option_to_list e ++ take 1 ys)))
    → all ≡ seam ++ map (segment_of key) (boxes_near area place (segment_boxes ys))
    → all ≡ before ++ map (segment_of key) (near_boxes area (segment_boxes (xs ++ ys)))
found_both key area e xs ys place before found seam all is at f g h =
    let of = segment_of key in
    let x = near_boxes area (segment_boxes xs) in
    let between = segment_boxes (option_to_list e ++ take 1 ys) in
    let s = boxes_near area (length xs - 1) between in
    let y = boxes_near area (length xs) (segment_boxes ys) in
    h ∙ ap (λ (n : ℕ). seam ++ map of (boxes_near area n (segment_boxes ys))) at
    ∙ ap (λ (l : List SegmentPlace). l ++ map of y)
    (g ∙ ap (λ (n : ℕ). found ++ map of (boxes_near area (n - 1) between)) at ∙ ap (λ (l : List SegmentPlace). l ++ map of s) f ∙ append_assoc before (map of x) (map of s)
    ∙ ap (λ (l : List SegmentPlace). before ++ l) (sym (map-append of x s)))
    ∙ append_assoc before (map of (x ++ s)) (map of y) ∙ ap (λ (l : List SegmentPlace). before ++ l) (sym (map-append of (x ++ s) y))
    ∙ ap (λ (l : List ℕ). before ++ map of l) (sym (near_both area e xs ys is))

-- ---- the last point

pub last_one_behind : (xs ys : List Point) (d : Point) → 0 < length ys → last_one (xs ++ ys) ≡ get_or ys (length ys - 1) d ∷ []
last_one_behind xs ys d some = behind xs ys some ∙ at ys some
  where
    behind : (xs ys : List Point) → 0 < length ys → last_one (xs ++ ys) ≡ last_one ys
    behind [] ys h = refl
    behind (x ∷ []) [] h = absurd (omega arith)
    behind (x ∷ []) (y ∷ ys) h = refl
    behind (x ∷ z ∷ xs) ys h = behind (z ∷ xs) ys h

    at : (ys : List Point) → 0 < length ys → last_one ys ≡ get_or ys (length ys - 1) d ∷ []
    at [] h = absurd (omega arith)
    at (y ∷ []) h = refl
    at (y ∷ z ∷ ys) h =
        let next : length (z ∷ ys) - 1 ≡ length ys = omega arith in
        let here : suc (length ys) ≡ length (y ∷ z ∷ ys) - 1 = omega arith in
        at (z ∷ ys) (omega arith) ∙ ap (λ (n : ℕ). get_or (z ∷ ys) n d ∷ []) next ∙ ap (λ (n : ℕ). get_or (y ∷ z ∷ ys) n d ∷ []) here

-- ---- a run that is apart from the area

covers_box : (b : Window) (p q : Point) → IsHeld b p → IsHeld b q → Covers b (segment_box p q)
covers_box b p q h k = record {
  left = omega (arith, ints, int_min_is p.x q.x, h.left, k.left);
  right = omega (arith, ints, int_max_is p.x q.x, h.right, k.right);
  low = omega (arith, ints, int_min_is p.y q.y, h.low, k.low);
  high = omega (arith, ints, int_max_is p.y q.y, h.high, k.high);
}

covers_all : (b : Window) (points : List Point) → All (IsHeld b) points → All (Covers b) (segment_boxes points)
covers_all b [] h = All-nil (Covers b)
covers_all b (p ∷ []) h = All-nil (Covers b)
covers_all b (p ∷ q ∷ points) h =
    let rest = All-tail (IsHeld b) p (q ∷ points) h in
    All-cons (Covers b) (segment_box p q) (segment_boxes (q ∷ points))
    (covers_box b p q (All-head (IsHeld b) p (q ∷ points) h) (All-head (IsHeld b) q points rest)) (covers_all b (q ∷ points) rest)

pub apart_near : (area b : Window) (place : ℕ) (points : List Point) → All (IsHeld b) points → meets area b ≡ false → boxes_near area place (segment_boxes points) ≡ []
apart_near area b place points h apart = none_near area b place (segment_boxes points) (covers_all b points h) apart
