-- The segments of a row of points before and after a point is taken out: those behind it have their places one less.
use Rattle.std.proofs.Common.{◌≡◌, ◌≢◌, ◌⊎◌, inl, inr, ℕ, suc, ◌+◌, ◌-◌, ◌<◌, ◌==◌, ◌&&◌, nat_lt, Bool, false, List, [], ◌∷◌, ◌++◌, map, All, refl, sym, ap, ap₂, ◌∙◌, arith}
use Rattle.std.specs.Prelude.{if◌then◌else◌}
use Rattle.std.proofs.lemmas.Bool.{eq-eqb, ne_eqb, cases_eq, and_left, and_right, and_from, lt-ltb, le-ltb, cond-true, cond-false}
use Rattle.std.proofs.lemmas.List.{map-append}
use Rattle.tgap_model.specs.declared.geometry.Point.{Point}
use Rattle.tgap_model.specs.declared.geometry.Seg.{Seg}
use Rattle.tgap_model.specs.declared.slice.Edge.{Edge}
use Rattle.tgap_model.specs.declared.segment.LabelledSegment.{LabelledSegment}
use Rattle.tgap_model.specs.Partition.{is_empty, path_segments, edge_segments, follows}
use Rattle.tgap_model.specs.Removals.{path, live_segments}

-- the place after as many segments as these points begin
abbrev pub place_after : ℕ → List Point → ℕ
place_after n [] = n
place_after n (x ∷ front) = place_after (n + 1) front

-- the first of these points, or else a
abbrev pub point_next : List Point → Point → Point
point_next [] a = a
point_next (x ∷ front) a = x

-- the segments of a row of points up to a, which is not its last point
abbrev pub front_segments : ℕ → ℕ → ℕ → ℕ → List Point → Point → List LabelledSegment
front_segments arc left right place [] a = []
front_segments arc left right place (x ∷ front) a =
    record {
      segment = record { a = x; b = point_next front a };
      left = left;
      right = right;
      arc = arc;
      place = place;
      starts = place == 0;
      ends = false;
    } ∷ front_segments arc left right (place + 1) front a

module _ (arc left right : ℕ) where
  not_empty : (front : List Point) (a : Point) (more : List Point) → is_empty (front ++ a ∷ more) ≡ false
  not_empty [] a more = refl
  not_empty (x ∷ front) a more = refl

  -- a row of points in two parts that have a in common
  pub path_in_parts : (place : ℕ) (front : List Point) (a z : Point) (more : List Point)
      → path_segments arc left right place (front ++ a ∷ z ∷ more)
      ≡ front_segments arc left right place front a ++ path_segments arc left right (place_after place front) (a ∷ z ∷ more)
  path_in_parts place [] a z more = refl
  path_in_parts place (x ∷ []) a z more = refl
  path_in_parts place (x ∷ y ∷ front) a z more =
      ap₂ (λ (b : Bool) (rest : List LabelledSegment).
      record { segment = record { a = x; b = y }; left = left; right = right; arc = arc; place = place; starts = place == 0; ends = b } ∷ rest)
      (not_empty front a (z ∷ more)) (path_in_parts (place + 1) (y ∷ front) a z more)

-- the plain segments of these
pub segments_of_path : (arc left right place : ℕ) (points : List Point) → map (λ (s : LabelledSegment). s.segment) (path_segments arc left right place points) ≡ path points
segments_of_path arc left right place [] = refl
segments_of_path arc left right place (a ∷ []) = refl
segments_of_path arc left right place (a ∷ b ∷ points) = ap (λ (rest : List Seg). record { a = a; b = b } ∷ rest) (segments_of_path arc left right (place + 1) (b ∷ points))

pub segments_of_front : (arc left right place : ℕ) (front : List Point) (a : Point)
    → map (λ (s : LabelledSegment). s.segment) (front_segments arc left right place front a) ≡ path (front ++ a ∷ [])
segments_of_front arc left right place [] a = refl
segments_of_front arc left right place (x ∷ []) a = refl
segments_of_front arc left right place (x ∷ y ∷ front) a =
    ap (λ (rest : List Seg). record { a = x; b = y } ∷ rest) (segments_of_front arc left right (place + 1) (y ∷ front) a)

pub segments_of_edges : (edges : List Edge) → map (λ (s : LabelledSegment). s.segment) (edge_segments edges) ≡ live_segments edges
segments_of_edges [] = refl
segments_of_edges (e ∷ edges) =
    map-append (λ (s : LabelledSegment). s.segment) (path_segments e.key e.left e.right 0 e.points) (edge_segments edges)
    ∙ ap₂ (λ (xs ys : List Seg). xs ++ ys) (segments_of_path e.key e.left e.right 0 e.points) (segments_of_edges edges)

-- ---- places, where the segments of the arc `key` at places m and m + 1 become one

module _ (key m : ℕ) where
  -- the place of a segment afterwards
  abbrev pub lowered : LabelledSegment → ℕ
  lowered s = if (s.arc == key) && nat_lt m s.place then s.place - 1 else s.place

  abbrev pub moved : LabelledSegment → LabelledSegment
  moved s = record s { place = lowered s }

  -- the segment is of another arc, before both or after both
  abbrev pub IsElsewhere : LabelledSegment → Type 0
  IsElsewhere s = (s.arc ≢ key) ⊎ (((s.arc ≡ key) × (s.place < m)) ⊎ ((s.arc ≡ key) × (m + 1 < s.place)))

  lowered_other : (s : LabelledSegment) → s.arc ≢ key → lowered s ≡ s.place
  lowered_other s n = cond-false _ (s.place - 1) s.place (and_left (s.arc == key) (nat_lt m s.place) (ne_eqb s.arc key n))

  lowered_before : (s : LabelledSegment) → s.place < m → lowered s ≡ s.place
  lowered_before s l = cond-false _ (s.place - 1) s.place (and_right (s.arc == key) (nat_lt m s.place) (le-ltb m s.place (omega arith)))

  lowered_after : (s : LabelledSegment) → s.arc ≡ key → m < s.place → lowered s ≡ s.place - 1
  lowered_after s e l = cond-true _ (s.place - 1) s.place (and_from (s.arc == key) (nat_lt m s.place) (eq-eqb s.arc key e) (lt-ltb m s.place l))

  -- segments of other arcs, and those before, keep their places
  pub all_other : (xs : List LabelledSegment) → All (λ s. s.arc ≢ key) xs → map moved xs ≡ xs
  all_other [] h = refl
  all_other (s ∷ xs) h = ap₂ (λ (n : ℕ) (rest : List LabelledSegment). record s { place = n } ∷ rest)
      (lowered_other s (h 0 s (omega arith))) (all_other xs (λ k d l. h (suc k) d (omega arith)))

  pub all_before : (xs : List LabelledSegment) → All (λ s. s.place < m) xs → map moved xs ≡ xs
  all_before [] h = refl
  all_before (s ∷ xs) h = ap₂ (λ (n : ℕ) (rest : List LabelledSegment). record s { place = n } ∷ rest)
      (lowered_before s (h 0 s (omega arith))) (all_before xs (λ k d l. h (suc k) d (omega arith)))

  -- those after both have theirs one less
  pub path_lowered : (left right n : ℕ) (points : List Point) → m < n → map moved (path_segments key left right (n + 1) points) ≡ path_segments key left right n points
  path_lowered left right n [] l = refl
  path_lowered left right n (a ∷ []) l = refl
  path_lowered left right n (a ∷ b ∷ points) l =
      ap₂ (λ (i : ℕ) (first : Bool).
      record { segment = record { a = a; b = b }; left = left; right = right; arc = key; place = i; starts = first; ends = is_empty points }
      ∷ map moved (path_segments key left right (n + 1 + 1) (b ∷ points)))
      (lowered_after (record { segment = record { a = a; b = b }; left = left; right = right; arc = key; place = n + 1; starts = n + 1 == 0; ends = is_empty points }) refl (omega arith) ∙ omega arith)
      (ne_eqb (n + 1) 0 (λ e. absurd (omega arith)) ∙ sym (ne_eqb n 0 (λ e. absurd (omega arith))))
      ∙ ap (λ (rest : List LabelledSegment).
      record { segment = record { a = a; b = b }; left = left; right = right; arc = key; place = n; starts = n == 0; ends = is_empty points } ∷ rest)
      (path_lowered left right (n + 1) (b ∷ points) (omega arith))

  -- ---- which segment follows which stays the same

  -- two tests for numbers that are one together
  same_test : (i j k l : ℕ) → (i ≡ j → k ≡ l) → (k ≡ l → i ≡ j) → (i == j) ≡ (k == l)
  same_test i j k l f g = by (cases_eq i j)
    where
      by : (i ≡ j) ⊎ (i ≡ j → ⊥) → (i == j) ≡ (k == l)
      by (inl e) = eq-eqb i j e ∙ sym (eq-eqb k l (f e))
      by (inr n) = ne_eqb i j n ∙ sym (ne_eqb k l (λ e. n (g e)))

  -- a second test that counts only where two arcs are one
  under_same : (i j : ℕ) (u v : Bool) → (i ≡ j → u ≡ v) → ((i == j) && u) ≡ ((i == j) && v)
  under_same i j u v h = by (cases_eq i j)
    where
      by : (i ≡ j) ⊎ (i ≡ j → ⊥) → ((i == j) && u) ≡ ((i == j) && v)
      by (inl e) = ap (λ (b : Bool). (i == j) && b) (h e)
      by (inr n) = and_left (i == j) u (ne_eqb i j n) ∙ sym (and_left (i == j) v (ne_eqb i j n))

  pub follows_moved : (s t : LabelledSegment) → IsElsewhere s → IsElsewhere t → follows (moved s) (moved t) ≡ follows s t
  follows_moved s t p q = under_same s.arc t.arc _ _ (λ e. by e p q)
    where
      by : s.arc ≡ t.arc → IsElsewhere s → IsElsewhere t → (lowered s + 1 == lowered t) ≡ (s.place + 1 == t.place)
      by e (inl i) (inl j) = ap₂ (λ (x y : ℕ). x + 1 == y) (lowered_other s i) (lowered_other t j)
      by e (inl i) (inr (inl j)) = absurd (i (e ∙ j.0))
      by e (inl i) (inr (inr j)) = absurd (i (e ∙ j.0))
      by e (inr (inl i)) (inl j) = absurd (j (sym e ∙ i.0))
      by e (inr (inr i)) (inl j) = absurd (j (sym e ∙ i.0))
      by e (inr (inl i)) (inr (inl j)) = ap₂ (λ (x y : ℕ). x + 1 == y) (lowered_before s i.1) (lowered_before t j.1)
      by e (inr (inl i)) (inr (inr j)) =
          let below : s.place < m = i.1 in
          let above : m + 1 < t.place = j.1 in
          ap₂ (λ (x y : ℕ). x + 1 == y) (lowered_before s i.1) (lowered_after t j.0 (omega arith))
          ∙ same_test (s.place + 1) (t.place - 1) (s.place + 1) t.place (λ f. absurd (omega arith)) (λ f. absurd (omega arith))
      by e (inr (inr i)) (inr (inl j)) =
          let above : m + 1 < s.place = i.1 in
          let below : t.place < m = j.1 in
          ap₂ (λ (x y : ℕ). x + 1 == y) (lowered_after s i.0 (omega arith)) (lowered_before t j.1)
          ∙ same_test (s.place - 1 + 1) t.place (s.place + 1) t.place (λ f. absurd (omega arith)) (λ f. absurd (omega arith))
      by e (inr (inr i)) (inr (inr j)) =
          let first : m + 1 < s.place = i.1 in
          let second : m + 1 < t.place = j.1 in
          ap₂ (λ (x y : ℕ). x + 1 == y) (lowered_after s i.0 (omega arith)) (lowered_after t j.0 (omega arith))
          ∙ same_test (s.place - 1 + 1) (t.place - 1) (s.place + 1) t.place (λ f. omega arith) (λ f. omega arith)

  -- which segment stands before the one at place m, and which after the one that was at m + 1 and is at m
  pub before_joined : (s : LabelledSegment) → IsElsewhere s → ((s.arc == key) && (lowered s + 1 == m)) ≡ ((s.arc == key) && (s.place + 1 == m))
  before_joined s p = under_same s.arc key _ _ (λ e. by e p)
    where
      by : s.arc ≡ key → IsElsewhere s → (lowered s + 1 == m) ≡ (s.place + 1 == m)
      by e (inl i) = absurd (i e)
      by e (inr (inl i)) = ap (λ (x : ℕ). x + 1 == m) (lowered_before s i.1)
      by e (inr (inr i)) =
          let above : m + 1 < s.place = i.1 in
          ap (λ (x : ℕ). x + 1 == m) (lowered_after s i.0 (omega arith))
          ∙ same_test (s.place - 1 + 1) m (s.place + 1) m (λ f. absurd (omega arith)) (λ f. absurd (omega arith))

  pub after_joined : (s : LabelledSegment) → IsElsewhere s → ((key == s.arc) && (m + 1 == lowered s)) ≡ ((key == s.arc) && (m + 1 + 1 == s.place))
  after_joined s p = under_same key s.arc _ _ (λ e. by (sym e) p)
    where
      by : s.arc ≡ key → IsElsewhere s → (m + 1 == lowered s) ≡ (m + 1 + 1 == s.place)
      by e (inl i) = absurd (i e)
      by e (inr (inl i)) =
          let below : s.place < m = i.1 in
          ap (λ (x : ℕ). m + 1 == x) (lowered_before s i.1)
          ∙ same_test (m + 1) s.place (m + 1 + 1) s.place (λ f. absurd (omega arith)) (λ f. absurd (omega arith))
      by e (inr (inr i)) =
          let above : m + 1 < s.place = i.1 in
          ap (λ (x : ℕ). m + 1 == x) (lowered_after s i.0 (omega arith))
          ∙ same_test (m + 1) (s.place - 1) (m + 1 + 1) s.place (λ f. omega arith) (λ f. omega arith)

  -- none of them is at place m or m + 1
  pub not_here : (s : LabelledSegment) (n : ℕ) → (n ≡ m) ⊎ (n ≡ m + 1) → IsElsewhere s → ((key == s.arc) && (n == s.place)) ≡ false
  not_here s n at p = by p
    where
      apart : (k : ℕ) → (k < m) ⊎ (m + 1 < k) → (n ≡ m) ⊎ (n ≡ m + 1) → n ≡ k → ⊥
      apart k (inl l) (inl e) f = absurd (omega arith)
      apart k (inl l) (inr e) f = absurd (omega arith)
      apart k (inr l) (inl e) f = absurd (omega arith)
      apart k (inr l) (inr e) f = absurd (omega arith)

      by : IsElsewhere s → ((key == s.arc) && (n == s.place)) ≡ false
      by (inl i) = and_left (key == s.arc) (n == s.place) (ne_eqb key s.arc (λ e. i (sym e)))
      by (inr (inl i)) = and_right (key == s.arc) (n == s.place) (ne_eqb n s.place (apart s.place (inl i.1) at))
      by (inr (inr i)) = and_right (key == s.arc) (n == s.place) (ne_eqb n s.place (apart s.place (inr i.1) at))

  pub not_next : (s : LabelledSegment) → IsElsewhere s → ((s.arc == key) && (s.place + 1 == m + 1)) ≡ false
  not_next s p = by p
    where
      by : IsElsewhere s → ((s.arc == key) && (s.place + 1 == m + 1)) ≡ false
      by (inl i) = and_left (s.arc == key) (s.place + 1 == m + 1) (ne_eqb s.arc key i)
      by (inr (inl i)) = let l : s.place < m = i.1 in and_right (s.arc == key) (s.place + 1 == m + 1) (ne_eqb (s.place + 1) (m + 1) (λ e. absurd (omega arith)))
      by (inr (inr i)) = let l : m + 1 < s.place = i.1 in and_right (s.arc == key) (s.place + 1 == m + 1) (ne_eqb (s.place + 1) (m + 1) (λ e. absurd (omega arith)))
