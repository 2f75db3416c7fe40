-- The areas of rings: a row of points and the row turned round, the sums of edges, and one more side of a ring.
use Rattle.std.proofs.Common.{◌≡◌, ◌<◌, ◌≤◌, ℕ, ◌+◌, ◌*◌, ℤ, pos, neg_ℤ, ◌+ℤ◌, ◌*ℤ◌, unsigned_abs, List, [], ◌∷◌, ◌++◌, length, map, take, drop, reverse, get_or, All, refl, sym, ap, ◌∙◌, subst, arith}
use Rattle.std.specs.Prelude.{slice_index_or}
use Rattle.std.proofs.lemmas.Int.{ints}
use Rattle.std.proofs.lemmas.List.{take_more, map-append, at_drop_more, get_or-map, length-map, reverse-append}
use Rattle.std.proofs.lemmas.List.Elements.{All-nil, All-cons, All-append}
use Rattle.tgap_model.specs.declared.geometry.Point.{Point}
use Rattle.tgap_model.specs.declared.slice.Edge.{Edge}
use Rattle.tgap_model.specs.declared.limits.TheConstants.{MAX_POINTS}
use Rattle.tgap_model.specs.Bounds.{max_arc_area, max_shoelace}
use Rattle.tgap_model.specs.Point.{shoelace, shoelace_term}
use Rattle.ring_walk.specs.declared.side.Side.{Side}
use Rattle.ring_walk.specs.Areas.{points_of, ring_area}
use Rattle.tgap_model.proofs.ShoelaceSums.{shoelace_size}
use Rattle.ring_walk.specs.Spans.{IsRing}
use Rattle.topo_write.specs.Polygons.{lines_of}
use Rattle.topo_write.specs.Building.{IsLine, AreSums}

-- ---- a row turned round

term_back : (a b : Point) → shoelace_term b a ≡ neg_ℤ (shoelace_term a b)
term_back a b = let p = a.x *ℤ b.y in let q = b.x *ℤ a.y in omega (arith, ints)

last_term : (ps : List Point) (b a : Point) → shoelace (ps ++ b ∷ a ∷ []) ≡ shoelace (ps ++ b ∷ []) +ℤ shoelace_term b a
last_term [] b a = let t = shoelace_term b a in omega (arith, ints)
last_term (p ∷ []) b a = let t = shoelace_term b a in let s = shoelace_term p b in omega (arith, ints)
last_term (p ∷ q ∷ ps) b a = let t = shoelace_term p q in omega (arith, ints, last_term (q ∷ ps) b a)

two_last : (ps : List Point) (b a : Point) → (ps ++ b ∷ []) ++ a ∷ [] ≡ ps ++ b ∷ a ∷ []
two_last [] b a = refl
two_last (p ∷ ps) b a = ap (λ qs. p ∷ qs) (two_last ps b a)

pub shoelace-reverse : (points : List Point) → shoelace (reverse points) ≡ neg_ℤ (shoelace points)
shoelace-reverse [] = refl
shoelace-reverse (a ∷ []) = refl
shoelace-reverse (a ∷ b ∷ points) =
    let both : reverse (a ∷ b ∷ points) ≡ reverse points ++ b ∷ a ∷ [] = reverse-cons a (b ∷ points) ∙ ap (λ qs. qs ++ a ∷ []) (reverse-cons b points) ∙ two_last (reverse points) b a in
    let one = last_term (reverse points) b a in
    let rest : shoelace (reverse points ++ b ∷ []) ≡ neg_ℤ (shoelace (b ∷ points)) = ap shoelace (sym (reverse-cons b points)) ∙ shoelace-reverse (b ∷ points) in
    let back = term_back a b in
    ap shoelace both ∙ omega (arith, ints, one, rest, back)
  where
    reverse-cons : (p : Point) (ps : List Point) → reverse (p ∷ ps) ≡ reverse ps ++ p ∷ []
    reverse-cons p ps = reverse-append (p ∷ []) ps

-- ---- the sums of edges

pub line_size : (points : List Point) → IsLine points → unsigned_abs (shoelace points) ≤ max_arc_area
line_size points h =
    let size = shoelace_size points h.near in
    let short = h.short in
    bounded (length points) (unsigned_abs (shoelace points)) short size
  where
    bounded : (n z : ℕ) → n ≤ MAX_POINTS → z ≤ n * max_shoelace → z ≤ max_arc_area
    bounded n z l m = omega (arith, l, m)

pub sums_more : (edges : List Edge) (i : ℕ) (e : Edge) (sums : List ℤ) (z given : ℤ) → i < length edges → e ≡ get_or edges i e → IsLine e.points
    → AreSums (lines_of (take i edges)) sums → z ≡ shoelace e.points → given ≡ z → AreSums (lines_of (take (i + 1) edges)) (sums ++ given ∷ [])
sums_more edges i e sums z given inside here line so_far is same =
    let last : given ≡ shoelace e.points = same ∙ is in
    record {
      value = ap (λ zs. zs ++ given ∷ []) so_far.value ∙ ap (λ y. map shoelace (lines_of (take i edges)) ++ y ∷ []) last
          ∙ sym (ap (λ es. map shoelace (lines_of es)) (take_more edges i e inside ∙ ap (λ (f : Edge). take i edges ++ f ∷ []) (sym here))
          ∙ ap (map shoelace) (map-append (λ (f : Edge). f.points) (take i edges) (e ∷ []))
          ∙ map-append shoelace (lines_of (take i edges)) (e.points ∷ []));
      size = All-append (λ y. unsigned_abs y ≤ max_arc_area) sums (given ∷ []) so_far.size
          (All-cons (λ y. unsigned_abs y ≤ max_arc_area) given [] (subst (λ (y : ℤ). unsigned_abs y ≤ max_arc_area) (sym last) (line_size e.points line)) (All-nil (λ y. unsigned_abs y ≤ max_arc_area)));
    }

-- ---- one side

-- what a side adds, from the sum of its span
pub side_along : (lines : List (List Point)) (sums : List ℤ) (i : ℕ) (z : ℤ) → AreSums lines sums → i < length sums → ((d : ℤ) → z ≡ get_or sums i d) → z ≡ shoelace (slice_index_or lines i [])
side_along lines sums i z h inside read =
    let long : length sums ≡ length lines = ap length h.value ∙ omega (arith, length-map {A = List Point} {B = ℤ}) in
    read (pos 0) ∙ ap (λ zs. get_or zs i (pos 0)) h.value ∙ get_or-map shoelace lines i [] (pos 0) (omega (arith, inside, long))

pub side_against : (lines : List (List Point)) (sums : List ℤ) (i : ℕ) (z : ℤ) → AreSums lines sums → i < length sums → ((d : ℤ) → z ≡ get_or sums i d)
    → neg_ℤ z ≡ shoelace (reverse (slice_index_or lines i []))
side_against lines sums i z h inside read = ap neg_ℤ (side_along lines sums i z h inside read) ∙ sym (shoelace-reverse (slice_index_or lines i []))

-- ---- one ring

pub area_next : (lines : List (List Point)) (ring : List Side) (k : ℕ) (s : Side) (sum t whole : ℤ) → k < length ring → s ≡ get_or ring k s → sum +ℤ ring_area lines (drop k ring) ≡ whole
    → t ≡ shoelace (points_of lines s) → (sum +ℤ t) +ℤ ring_area lines (drop (k + 1) ring) ≡ whole
area_next lines ring k s sum t whole inside here so_far e =
    let one : ring_area lines (drop k ring) ≡ shoelace (points_of lines s) +ℤ ring_area lines (drop (k + 1) ring) =
    at_drop_more (ring_area lines) ring k s inside ∙ ap (λ (u : Side). shoelace (points_of lines u) +ℤ ring_area lines (drop (k + 1) ring)) (sym here) in
    omega (arith, ints, so_far, e, one)

-- ---- each ring

pub sums_long : (edges : List Edge) (sums : List ℤ) → AreSums (lines_of edges) sums → length sums ≡ length edges
sums_long edges sums h = ap length h.value ∙ omega (arith, length-map {A = List Point} {B = ℤ}, length-map {A = Edge} {B = List Point})

pub ring_here : (n : ℕ) (rings : List (List Side)) (i : ℕ) (r ring : List Side) (m : ℕ) → All (IsRing n) rings → i < length rings → r ≡ get_or rings i r → ring ≡ r → m ≡ n → IsRing m ring
ring_here n rings i r ring m h l here same e = subst (λ k. IsRing k ring) (sym e) (subst (IsRing n) (sym (same ∙ here)) (h i r l))

-- one more of what is mapped
pub map_more : {A B : Type 0} (f : A → B) (xs : List A) (i : ℕ) (x : A) (ys new : List B) (y : B) → i < length xs → x ≡ get_or xs i x → ys ≡ map f (take i xs) → y ≡ f x → new ≡ ys ++ y ∷ []
    → new ≡ map f (take (i + 1) xs)
map_more {A} {B} f xs i x ys new y l here so_far is pushed =
    pushed ∙ ap (λ (zs : List B). zs ++ y ∷ []) so_far ∙ ap (λ (z : B). map f (take i xs) ++ z ∷ []) (is ∙ ap f here)
    ∙ sym (ap (map f) (take_more xs i x l) ∙ map-append f (take i xs) (get_or xs i x ∷ []))
