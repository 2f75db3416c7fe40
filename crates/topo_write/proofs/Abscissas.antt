-- Boxes of the abscissas of rings, and which rings they keep from a line.
use Rattle.std.proofs.Common.{◌≡◌, ◌⊎◌, inl, inr, ℕ, ◌+◌, ◌-◌, ◌<◌, ◌≤◌, ◌≤ℤ◌, Bool, true, false, ◌&&◌, ◌||◌, cond, ℤ, pos, int_lt, int_le, List, [], ◌∷◌, ◌++◌, length, take, reverse, get_or, All, refl, sym, ap, ap₂, ◌∙◌, subst, arith}
use Rattle.std.specs.Prelude.{slice_index_or, count_by}
use Rattle.std.proofs.lemmas.Int.{ints}
use Rattle.std.proofs.lemmas.Bool.{cases_lt}
use Rattle.std.proofs.lemmas.List.{get_or-reverse, get_or-take, get_or_append_left, get_or_at, length-append, length-reverse, length-take}
use Rattle.std.proofs.lemmas.List.Elements.{All-nil, All-cons, All-head, All-tail, All-more, All-weaker}
use Rattle.lemmas.specs.Parity.{is_odd}
use Rattle.lemmas.proofs.Counts.{count_by-cons}
use Rattle.lemmas.proofs.Members.{All-flat_map}
use Rattle.tgap_model.specs.declared.geometry.Point.{Point}
use Rattle.tgap_model.specs.declared.geometry.Seg.{Seg}
use Rattle.tgap_model.specs.declared.geometry.Window.{Window}
use Rattle.tgap_model.specs.Segment.{line_after, crosses, is_higher}
use Rattle.grid_index.specs.Boxes.{meets}
use Rattle.ring_walk.specs.declared.side.Side.{Side}
use Rattle.ring_walk.specs.declared.side.Way.{Way}
use Rattle.ring_walk.specs.declared.side.Way.TheVariants.{Along, Against}
use Rattle.ring_walk.specs.Areas.{are_round, is_over, line_of, points_by, points_of, ring_segments, segments_of}
use Rattle.std.specs.Int.{int_min}
use Rattle.topo_write.specs.Building.{AreColumns, HoldsPoint, HoldsRing, IsWider, column_of, ring_at}
use Rattle.topo_write.proofs.SpanSegments.{crosses_after}

-- ---- wider boxes

pub wider_same : (b : Window) → IsWider b b
wider_same b = record { left = omega (arith, ints); right = omega (arith, ints); low = refl; high = refl }

pub wider_on : (a b c : Window) → IsWider a b → IsWider b c → IsWider a c
wider_on a b c f g = record { left = omega (arith, ints, f.left, g.left); right = omega (arith, ints, f.right, g.right); low = f.low ∙ g.low; high = f.high ∙ g.high }

pub wider_holds : (a b : Window) (p : Point) → IsWider a b → HoldsPoint b p → HoldsPoint a p
wider_holds a b p w h = record { left = omega (arith, ints, w.left, h.left); right = omega (arith, ints, w.right, h.right) }

pub points_more : (a b : Window) (points : List Point) (i : ℕ) (p : Point) → i < length points → p ≡ get_or points i p → IsWider a b → HoldsPoint a p → All (HoldsPoint b) (take i points)
    → All (HoldsPoint a) (take (i + 1) points)
points_more a b points i p l here wider last before =
    All-more (HoldsPoint a) points i p l (All-weaker (HoldsPoint b) (HoldsPoint a) (λ q. wider_holds a b q wider) (take i points) before) (subst (HoldsPoint a) here last)

-- the points of the first sides of a ring
abbrev pub HoldsSides : List (List Point) → List Side → Window → Type 0
HoldsSides lines ring box = All (λ s. All (HoldsPoint box) (slice_index_or lines s.span [])) ring

pub sides_more : (a b : Window) (lines : List (List Point)) (ring : List Side) (i : ℕ) (s : Side) → i < length ring → s ≡ get_or ring i s → IsWider a b
    → All (HoldsPoint a) (slice_index_or lines s.span []) → HoldsSides lines (take i ring) b → HoldsSides lines (take (i + 1) ring) a
sides_more a b lines ring i s l here wider last before =
    All-more (λ (t : Side). All (HoldsPoint a) (slice_index_or lines t.span [])) ring i s l
    (All-weaker (λ (t : Side). All (HoldsPoint b) (slice_index_or lines t.span [])) (λ (t : Side). All (HoldsPoint a) (slice_index_or lines t.span []))
    (λ t. All-weaker (HoldsPoint b) (HoldsPoint a) (λ q. wider_holds a b q wider) (slice_index_or lines t.span [])) (take i ring) before)
    (subst (λ (t : Side). All (HoldsPoint a) (slice_index_or lines t.span [])) here last)

-- ---- segments within the abscissas of a box

abbrev HoldsEnds : Window → Seg → Type 0
HoldsEnds box t = HoldsPoint box t.a × HoldsPoint box t.b

pub All-reverse : {A : Type 0} (P : A → Type 0) (xs : List A) → All P xs → All P (reverse xs)
All-reverse P xs h i d l =
    let short : i < length xs = omega (arith, l, length-reverse xs) in
    subst P (sym (get_or-reverse xs i d short)) (h (length xs - 1 - i) d (omega arith))

ends_held : (box : Window) (points : List Point) → All (HoldsPoint box) points → All (HoldsEnds box) (segments_of points)
ends_held box [] h = All-nil (HoldsEnds box)
ends_held box (a ∷ []) h = All-nil (HoldsEnds box)
ends_held box (a ∷ b ∷ points) h =
    let rest = All-tail (HoldsPoint box) a (b ∷ points) h in
    All-cons (HoldsEnds box) (record { a = a; b = b }) (segments_of (b ∷ points)) (All-head (HoldsPoint box) a (b ∷ points) h, All-head (HoldsPoint box) b points rest) (ends_held box (b ∷ points) rest)

by_way : (box : Window) (way : Way) (points : List Point) → All (HoldsPoint box) points → All (HoldsEnds box) (segments_of (points_by way points))
by_way box Along points h = ends_held box points h
by_way box Against points h = ends_held box (reverse points) (All-reverse (HoldsPoint box) points h)

-- a line outside of the abscissas of a box crosses nothing between them
crosses_none : (v : ℤ) (box : Window) (t : Seg) → HoldsEnds box t → box.y0 ≡ pos 0 → box.y1 ≡ pos 0 → meets (record { x0 = v; y0 = pos 0; x1 = v; y1 = pos 0 }) box ≡ false → crosses (line_after v) t ≡ false
crosses_none v box t (held, also) low high apart =
    sym (crosses_after v t (int_le t.a.x v && int_lt v t.b.x) (int_le t.b.x v && int_lt v t.a.x) refl refl)
    ∙ outside v box.x0 box.x1 t.a.x t.b.x held.left held.right also.left also.right
    (sym (both (int_le v box.x1 && int_le box.x0 v)) ∙ ap (λ (b : Bool). (int_le v box.x1 && int_le box.x0 v) && b) (sym (ap₂ (λ (y z : ℤ). int_le (pos 0) z && int_le y (pos 0)) low high)) ∙ apart)
  where
    both : (b : Bool) → (b && true) ≡ b
    both true = refl
    both false = refl

    outside : (v x y a b : ℤ) → x ≤ℤ a → a ≤ℤ y → x ≤ℤ b → b ≤ℤ y → (int_le v y && int_le x v) ≡ false → ((int_le a v && int_lt v b) || (int_le b v && int_lt v a)) ≡ false
    outside v x y a b la ra lb rb apart = grind (arith, ints)

count_none : {A : Type 0} (p : A → Bool) (xs : List A) → All (λ x. p x ≡ false) xs → count_by p xs ≡ 0
count_none p [] h = refl
count_none p (x ∷ xs) h =
    count_by-cons p x xs ∙ ap₂ (λ (b : Bool) (n : ℕ). cond b 1 0 + n) (All-head (λ y. p y ≡ false) x xs h) (count_none p xs (All-tail (λ y. p y ≡ false) x xs h))

-- a ring whose box does not meet the column of a probe does not go round it
pub round_none : (lines : List (List Point)) (ring : List Side) (box : Window) (s : Seg) → HoldsRing lines ring box
    → meets (column_of s) box ≡ false → are_round s (ring_segments lines ring) ≡ false
round_none lines ring box s h apart =
    ap is_odd (count_none (is_over s) (ring_segments lines ring)
    (All-flat_map (λ t. is_over s t ≡ false) (λ u. segments_of (points_of lines u)) ring
    (All-weaker (λ (u : Side). All (HoldsPoint box) (slice_index_or lines u.span [])) (λ (u : Side). All (λ t. is_over s t ≡ false) (segments_of (points_of lines u)))
    (λ u held. All-weaker (HoldsEnds box) (λ t. is_over s t ≡ false)
    (λ t e. ap (λ (b : Bool). b && is_higher (line_of s) t s) (crosses_none (int_min s.a.x s.b.x) box t e h.low h.high apart))
    (segments_of (points_of lines u)) (by_way box u.way (slice_index_or lines u.span []) held)) ring h.points)))

-- the box of one ring more
pub columns_more : (lines : List (List Point)) (rings : List (List Side)) (places : List ℕ) (i : ℕ) (boxes new : List Window) (box : Window) → i < length places → AreColumns lines rings (take i places) boxes
    → HoldsRing lines (ring_at rings (get_or places i 0)) box → new ≡ boxes ++ box ∷ [] → AreColumns lines rings (take (i + 1) places) new
columns_more lines rings places i boxes new box l known held pushed =
    let short : length (take i places) ≡ i = omega (arith, length-take i places, l) in
    let long : length boxes ≡ i = known.long ∙ short in
    let more : length (take (i + 1) places) ≡ i + 1 = omega (arith, length-take (i + 1) places, l) in
    record {
      long = ap length pushed ∙ omega (arith, length-append boxes (box ∷ []), long, more);
      each = λ k d m. each k d (omega (arith, m, more)) (cases_lt k i);
    }
  where
    each : (k : ℕ) (d : Window) → k < i + 1 → (k < i) ⊎ (i ≤ k) → HoldsRing lines (ring_at rings (get_or (take (i + 1) places) k 0)) (get_or new k d)
    each k d m (inl lt) =
        let short : length (take i places) ≡ i = omega (arith, length-take i places, l) in
        let long : length boxes ≡ i = known.long ∙ short in
        subst (λ (b : Window). HoldsRing lines (ring_at rings (get_or (take (i + 1) places) k 0)) b) (sym (ap (λ (bs : List Window). get_or bs k d) pushed ∙ get_or_append_left boxes (box ∷ []) d k (omega (arith, lt, long))))
        (subst (λ (p : ℕ). HoldsRing lines (ring_at rings p) (get_or boxes k d)) (get_or-take i places k 0 lt ∙ sym (get_or-take (i + 1) places k 0 m)) (known.each k d (omega (arith, lt, short))))
    each k d m (inr ge) =
        let short : length (take i places) ≡ i = omega (arith, length-take i places, l) in
        let same : i ≡ k = omega (arith, m, ge) in
        let long : length boxes ≡ k = known.long ∙ short ∙ same in
        subst (λ (b : Window). HoldsRing lines (ring_at rings (get_or (take (i + 1) places) k 0)) b) (sym (ap (λ (bs : List Window). get_or bs k d) pushed ∙ get_or_at boxes box [] d k long))
        (subst (λ (p : ℕ). HoldsRing lines (ring_at rings p) box) (ap (λ (n : ℕ). get_or places n 0) same ∙ sym (get_or-take (i + 1) places k 0 m)) held)
