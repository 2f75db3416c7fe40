-- The segments of edges whose boxes meet an area, where all others pass a test.
use Rattle.std.proofs.Common.{◌≡◌, ℕ, zero, suc, ◌+◌, ◌<◌, ◌≤◌, nat_lt, Bool, true, false, cond, ◌&&◌, ◌||◌, List, [], ◌∷◌, drop, length, All, AllPairs, refl, sym, ap, ap₂, ◌∙◌, arith}
use Rattle.std.specs.List.{flat_map, list_all}
use Rattle.std.proofs.lemmas.Bool.{eq-eqb, ne_eqb, or_left}
use Rattle.std.proofs.lemmas.Bool.Decides.{nat_tests}
use Rattle.std.proofs.lemmas.List.{drop_all}
use Rattle.std.proofs.lemmas.List.Folds.{list_all-append, list_all-map}
use Rattle.std.proofs.lemmas.List.Elements.{All-nil, All-append, All-head, All-tail, All-map, All-weaker}
use Rattle.tgap_model.specs.declared.geometry.Point.{Point}
use Rattle.tgap_model.specs.declared.geometry.Seg.{Seg}
use Rattle.tgap_model.specs.declared.geometry.Window.{Window}
use Rattle.tgap_model.specs.declared.slice.Edge.{Edge}
use Rattle.tgap_model.specs.Removals.{path}
use Rattle.lemmas.proofs.Members.{AllPairs-head, AllPairs-tail}
use Rattle.grid_index.specs.Boxes.{meets, segment_box}
use Rattle.grid_index.specs.Near.{cons_if, boxes_near, near_boxes}
use Rattle.grid_index.specs.Live.{segment_boxes, edge_near, near_segments}
use Rattle.grid_index.specs.declared.live.SegmentPlace.{SegmentPlace}
use Rattle.grid_index.proofs.Meeting.{near_below}
use Rattle.vertex_drop.specs.declared.near.Stand.{Stand}
use Rattle.vertex_drop.specs.Left.{first_left, left_path, left_segments, passes_in, passes_on, passes_at, IsPlaceIn}

-- a test of all that is made of the members of a list
pub list_all-flat_map : {A B : Type 0} (p : B → Bool) (f : A → List B) (xs : List A) → list_all p (flat_map f xs) ≡ list_all (λ x. list_all p (f x)) xs
list_all-flat_map p f [] = refl
list_all-flat_map p f (x ∷ xs) = list_all-append p (f x) (flat_map f xs) ∙ ap (λ (b : Bool). list_all p (f x) && b) (list_all-flat_map p f xs)

-- tests that agree on the members agree on the list
pub list_all_agree : {A : Type 0} (p q : A → Bool) (xs : List A) → All (λ x. p x ≡ q x) xs → list_all p xs ≡ list_all q xs
list_all_agree p q [] h = refl
list_all_agree p q (x ∷ xs) h =
    ap₂ (λ (a b : Bool). a && b) (All-head (λ y. p y ≡ q y) x xs h) (list_all_agree p q xs (All-tail (λ y. p y ≡ q y) x xs h))

-- ---- one edge

-- a segment has a place in a row of points as it has in the row from the second point on
in_rest : (test : Seg → Bool) (points : List Point) (i : ℕ) → passes_in test (drop 1 points) i ≡ passes_in test points (suc i)
in_rest test [] i = refl
in_rest test (a ∷ []) i = refl
in_rest test (a ∷ b ∷ points) i = refl

module _ (area : Window) (test : Seg → Bool) (far : (s : Seg) → meets area (segment_box s.a s.b) ≡ false → test s ≡ true) where
  -- a segment that meets the area is tested, and another one passes
  tested : (a b : Point) (k : ℕ) (q : ℕ → Bool) (rest : List ℕ) → q k ≡ test (record { a = a; b = b })
      → list_all q (cons_if (meets area (segment_box a b)) k rest) ≡ (test (record { a = a; b = b }) && list_all q rest)
  tested a b k q rest e = by (meets area (segment_box a b)) refl
    where
      by : (m : Bool) → meets area (segment_box a b) ≡ m → list_all q (cons_if m k rest) ≡ (test (record { a = a; b = b }) && list_all q rest)
      by true f = ap (λ (t : Bool). t && list_all q rest) e
      by false f = ap (λ (t : Bool). t && list_all q rest) (sym (far (record { a = a; b = b }) f))

  -- all from a place on
  all_from : (q : ℕ → Bool) (points : List Point) (k : ℕ) → ((i : ℕ) → q (k + i) ≡ passes_in test points i)
      → list_all q (boxes_near area k (segment_boxes points)) ≡ list_all test (path points)
  all_from q [] k h = refl
  all_from q (a ∷ []) k h = refl
  all_from q (a ∷ b ∷ points) k h =
      let here : k + 0 ≡ k = omega arith in
      tested a b k q (boxes_near area (k + 1) (segment_boxes (b ∷ points))) (ap q (sym here) ∙ h 0)
      ∙ ap (λ (t : Bool). test (record { a = a; b = b }) && t) (all_from q (b ∷ points) (k + 1) next)
    where
      next : (i : ℕ) → q (k + 1 + i) ≡ passes_in test (b ∷ points) i
      next i = let e : k + 1 + i ≡ k + suc i = omega arith in ap q e ∙ h (suc i)

  -- a place that passes makes no difference
  passed : (m : Bool) (k : ℕ) (q : ℕ → Bool) (rest : List ℕ) → q k ≡ true → list_all q (cons_if m k rest) ≡ list_all q rest
  passed true k q rest e = ap (λ (t : Bool). t && list_all q rest) e
  passed false k q rest e = refl

  -- all from a place on, where the n before it pass
  all_after : (n : ℕ) (q : ℕ → Bool) (points : List Point) (k : ℕ) → ((i : ℕ) → i < n → q (k + i) ≡ true)
      → ((i : ℕ) → n ≤ i → q (k + i) ≡ passes_in test points i)
      → list_all q (boxes_near area k (segment_boxes points)) ≡ list_all test (path (drop n points))
  all_after zero q points k g h = all_from q points k (λ i. h i (omega arith))
  all_after (suc n) q [] k g h = refl
  all_after (suc n) q (a ∷ []) k g h = ap (λ (l : List Point). list_all test (path l)) (sym (drop_all n [] (omega arith)))
  all_after (suc n) q (a ∷ b ∷ points) k g h =
      let here : k + 0 ≡ k = omega arith in
      passed (meets area (segment_box a b)) k q (boxes_near area (k + 1) (segment_boxes (b ∷ points))) (ap q (sym here) ∙ g 0 (omega arith))
      ∙ all_after n q (b ∷ points) (k + 1) before later
    where
      before : (i : ℕ) → i < n → q (k + 1 + i) ≡ true
      before i l = let e : k + 1 + i ≡ k + suc i = omega arith in ap q e ∙ g (suc i) (omega arith)

      later : (i : ℕ) → n ≤ i → q (k + 1 + i) ≡ passes_in test (b ∷ points) i
      later i l = let e : k + 1 + i ≡ k + suc i = omega arith in ap q e ∙ h (suc i) (omega arith)

  -- the places of an edge that are near pass exactly where all of its segments that are left do
  near_on : (at : Stand) (e : Edge) → list_all (passes_on test at e) (near_boxes area (segment_boxes e.points)) ≡ list_all test (left_path at e)
  near_on at e = all_after (first_left at e) (passes_on test at e) e.points 0 before later
    where
      before : (i : ℕ) → i < first_left at e → passes_on test at e (0 + i) ≡ true
      before i l =
          let none : 0 + i ≡ i = omega arith in
          let t : nat_lt i (first_left at e) ≡ true = grind (arith, nat_tests, l) in
          ap (passes_on test at e) none ∙ or_left _ _ t

      later : (i : ℕ) → first_left at e ≤ i → passes_on test at e (0 + i) ≡ passes_in test e.points i
      later i l =
          let none : 0 + i ≡ i = omega arith in
          let t : nat_lt i (first_left at e) ≡ false = grind (arith, nat_tests, l) in
          ap (passes_on test at e) none ∙ ap (λ (b : Bool). b || passes_in test e.points i) t

  -- ---- all edges

  -- the places of an edge have its key
  has_key : (e : Edge) → All (λ p. p.key ≡ e.key) (edge_near area e)
  has_key e =
      All-map (λ (p : SegmentPlace). p.key ≡ e.key) (λ (i : ℕ). record { key = e.key; place = i }) (near_boxes area (segment_boxes e.points)) (λ k d l. refl)

  -- the places of edges with greater keys have greater keys
  greater : (n : ℕ) (edges : List Edge) → All (λ e. n < e.key) edges → All (λ p. n < p.key) (near_segments area edges)
  greater n [] h = All-nil (λ (p : SegmentPlace). n < p.key)
  greater n (e ∷ edges) h =
      let first = All-head (λ (f : Edge). n < f.key) e edges h in
      All-append (λ (p : SegmentPlace). n < p.key) (edge_near area e) (near_segments area edges)
      (All-weaker (λ (p : SegmentPlace). p.key ≡ e.key) (λ (p : SegmentPlace). n < p.key) (λ p s. omega (arith, s, first)) (edge_near area e) (has_key e))
      (greater n edges (All-tail (λ (f : Edge). n < f.key) e edges h))

  -- a place is that of the first edge, or of one after it
  at_first : (at : Stand) (e : Edge) (edges : List Edge) (p : SegmentPlace) → p.key ≡ e.key → passes_at test at (e ∷ edges) p ≡ passes_on test at e p.place
  at_first at e edges p s = ap (λ (b : Bool). cond b (passes_on test at e p.place) (passes_at test at edges p)) (eq-eqb e.key p.key (sym s))

  at_later : (at : Stand) (e : Edge) (edges : List Edge) (p : SegmentPlace) → e.key < p.key → passes_at test at (e ∷ edges) p ≡ passes_at test at edges p
  at_later at e edges p l =
      ap (λ (b : Bool). cond b (passes_on test at e p.place) (passes_at test at edges p)) (ne_eqb e.key p.key (λ s. absurd (omega (arith, s, l))))

  near_all : (at : Stand) (edges : List Edge) → AllPairs (λ e f. e.key < f.key) edges
      → list_all (passes_at test at edges) (near_segments area edges) ≡ list_all test (left_segments at edges)
  near_all at [] h = refl
  near_all at (e ∷ edges) h =
      let lt = λ (e f : Edge). e.key < f.key in
      let places = edge_near area e in
      let later = near_segments area edges in
      let first = AllPairs-head lt e edges h in
      let on : list_all (passes_at test at (e ∷ edges)) places ≡ list_all test (left_path at e) =
      list_all_agree (passes_at test at (e ∷ edges)) (λ (p : SegmentPlace). passes_on test at e p.place) places
      (All-weaker (λ (p : SegmentPlace). p.key ≡ e.key) (λ (p : SegmentPlace). passes_at test at (e ∷ edges) p ≡ passes_on test at e p.place) (at_first at e edges) places (has_key e))
      ∙ list_all-map (λ (p : SegmentPlace). passes_on test at e p.place) (λ (i : ℕ). record { key = e.key; place = i }) (near_boxes area (segment_boxes e.points))
      ∙ near_on at e in
      let rest : list_all (passes_at test at (e ∷ edges)) later ≡ list_all test (left_segments at edges) =
      list_all_agree (passes_at test at (e ∷ edges)) (passes_at test at edges) later
      (All-weaker (λ (p : SegmentPlace). e.key < p.key) (λ (p : SegmentPlace). passes_at test at (e ∷ edges) p ≡ passes_at test at edges p) (at_later at e edges) later
      (greater e.key edges first))
      ∙ near_all at edges (AllPairs-tail lt e edges h) in
      list_all-append (passes_at test at (e ∷ edges)) places later ∙ ap₂ (λ (a b : Bool). a && b) on rest
      ∙ sym (list_all-append test (left_path at e) (left_segments at edges))

  pub near_passes : (at : Stand) (edges : List Edge) → AllPairs (λ e f. e.key < f.key) edges
      → list_all (passes_at test at edges) (near_segments area edges) ≡ list_all test (left_segments at edges)
  near_passes = near_all

-- ---- each place is that of a segment

-- a row of points has one point more than it has segments, if it has any
segment_within : (points : List Point) (i : ℕ) → i < length (segment_boxes points) → i + 1 < length points
segment_within [] i l = absurd (omega (arith, l))
segment_within (a ∷ []) i l = absurd (omega (arith, l))
segment_within (a ∷ b ∷ points) zero l = omega arith
segment_within (a ∷ b ∷ points) (suc i) l = omega (arith, segment_within (b ∷ points) i (omega (arith, l)))

pub near_places : (area : Window) (edges : List Edge) → All (IsPlaceIn edges) (near_segments area edges)
near_places area [] = All-nil (IsPlaceIn [])
near_places area (e ∷ edges) =
    All-append (IsPlaceIn (e ∷ edges)) (edge_near area e) (near_segments area edges)
    (All-map (IsPlaceIn (e ∷ edges)) (λ (i : ℕ). record { key = e.key; place = i }) (near_boxes area (segment_boxes e.points))
    (All-weaker (λ (i : ℕ). i < length (segment_boxes e.points)) (λ (i : ℕ). IsPlaceIn (e ∷ edges) (record { key = e.key; place = i }))
    (λ i l. (0, omega arith, λ d. (refl, segment_within e.points i l))) (near_boxes area (segment_boxes e.points)) (near_below area (segment_boxes e.points))))
    (All-weaker (IsPlaceIn edges) (IsPlaceIn (e ∷ edges)) (λ p at. (suc at.0, omega (arith, at.1), at.2)) (near_segments area edges) (near_places area edges))
