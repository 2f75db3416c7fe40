-- The rings of the parts of faces: each ring of a face with a row is in one part of it, once, and no side is in two of them.
use Rattle.std.proofs.Common.{◌≡◌, ◌≢◌, ◌⊎◌, inl, inr, ℕ, zero, suc, ◌+◌, ◌<◌, ◌≤◌, ◌==◌, Bool, true, false, cond, if◌then◌else◌, List, [], ◌∷◌, length, filter, flat_map, get_or, All, AllPairs, Contains, Option, Some, None, Result, Ok, Err, option_map, refl, sym, ap, ◌∙◌, subst, eq-eqb, eqb-true, true≢false, arith}
use Rattle.std.specs.Prelude.{ℤ, pos, negsuc, int_lt, find, unwrap_or}
use Rattle.std.specs.Ordering.{int_eq}
use Rattle.std.specs.List.{list_any}
use Rattle.std.proofs.lemmas.Bool.{cases_eq, lt-ltb, ltb-true}
use Rattle.std.proofs.lemmas.List.Folds.{Any-from_list_any}
use Rattle.std.proofs.lemmas.List.Concat.{flat_map-append}
use Rattle.std.proofs.lemmas.List.Elements.{All-nil, All-cons, All-contains, Contains-append_cases}
use Rattle.std.proofs.lemmas.List.Kept.{AllPairs-cons, AllPairs-filter}
use Rattle.lemmas.proofs.Members.{in_head, in_tail, in_cases, in_none, All-from_members, AllPairs-nil, AllPairs-head, AllPairs-tail, AllPairs-append, Contains-filter, Contains-from_filter, Contains-flat_map, Contains-from_flat_map}
use Rattle.tgap_model.specs.declared.geometry.Point.{Point}
use Rattle.tgap_model.specs.declared.slice.FaceRow.{FaceRow}
use Rattle.tgap_model.specs.declared.slice.Edge.{Edge}
use Rattle.ring_walk.specs.declared.span.Span.{Span}
use Rattle.ring_walk.specs.declared.span.EdgeEnds.{EdgeEnds}
use Rattle.ring_walk.specs.declared.side.Side.{Side}
use Rattle.ring_walk.specs.Rings.{rings_of, ring_face}
use Rattle.ring_walk.specs.Areas.{ring_area}
use Rattle.topo_write.specs.declared.flat.FlatRing.{FlatRing}
use Rattle.topo_write.specs.declared.home.Home.{Home}
use Rattle.topo_write.specs.Polygons.{spans_of, lines_of, of_face, is_flat, is_outer, is_inner, first_ring, flat_among, flat_of, ring_key, is_within, nearer, home_from, home_of, Polygon, polygons_from, face_polygons, polygons_of}

abbrev Ring : Type 0
Ring = List Side

abbrev pub Differ : List (List Side) → Type 0
Differ rings = AllPairs (λ q r. q ≢ r) rings

-- the rings of polygons, one after the other
abbrev pub rings_in : List Polygon → List (List Side)
rings_in polygons = flat_map (λ p. p.rings) polygons

-- ---- the polygons of outer and inner rings

module _ (row : FaceRow) (home : Ring → ℕ) (inner : List Ring) where
  abbrev made : ℕ → List Ring → List Polygon
  made j outer = polygons_from row home inner j outer

  abbrev at_home : ℕ → Ring → Bool
  at_home j i = home i == j

  rows_made : (j : ℕ) (outer : List Ring) → All (λ p. p.row ≡ row) (made j outer)
  rows_made j [] = All-nil (λ p. p.row ≡ row)
  rows_made j (r ∷ outer) = All-cons (λ p. p.row ≡ row) (record { row = row; rings = r ∷ filter (at_home j) inner }) (made (j + 1) outer) refl (rows_made (j + 1) outer)

  -- a polygon has an outer ring, and then inner ones
  pub record IsMade (outer : List Ring) (p : Polygon) : Type 0 where
    pub first : Ring
    pub holes : List Ring
    pub rings : p.rings ≡ first ∷ holes
    pub round : Contains outer first
    pub inside : All (Contains inner) holes

  made_so : (j : ℕ) (outer more : List Ring) → ((r : Ring) → Contains outer r → Contains more r) → All (IsMade more) (made j outer)
  made_so j [] more h = All-nil (IsMade more)
  made_so j (r ∷ outer) more h =
      All-cons (IsMade more) (record { row = row; rings = r ∷ filter (at_home j) inner }) (made (j + 1) outer)
      (record {
        first = r;
        holes = filter (at_home j) inner;
        rings = refl;
        round = h r (in_head r outer);
        inside = All-from_members (Contains inner) (filter (at_home j) inner) (λ i c. (Contains-from_filter (at_home j) inner i c).0);
      })
      (made_so (j + 1) outer more (λ q c. h q (in_tail r outer q c)))

  -- each outer ring is in one
  outer_made : (j : ℕ) (outer : List Ring) (r : Ring) → Contains outer r → (p : Polygon) × Contains (made j outer) p × Contains p.rings r
  outer_made j [] r c = absurd (in_none r c)
  outer_made j (q ∷ outer) r c =
      let p : Polygon = record { row = row; rings = q ∷ filter (at_home j) inner } in
      elim (in_cases q outer r c) [
        | inl e ↦ (p, in_head p (made (j + 1) outer), subst (Contains p.rings) e (in_head q (filter (at_home j) inner)))
        | inr later ↦ let h = outer_made (j + 1) outer r later in (h.0, in_tail p (made (j + 1) outer) h.0 h.1, h.2)
      ]

  -- so is each inner ring, where its home is
  inner_made : (j : ℕ) (outer : List Ring) (i : Ring) → Contains inner i → j ≤ home i → home i < j + length outer → (p : Polygon) × Contains (made j outer) p × Contains p.rings i
  inner_made j [] i c low high = absurd (omega (arith, low, high))
  inner_made j (q ∷ outer) i c low high =
      let p : Polygon = record { row = row; rings = q ∷ filter (at_home j) inner } in
      elim (cases_eq (home i) j) [
        | inl e ↦ (p, in_head p (made (j + 1) outer), in_tail q (filter (at_home j) inner) i (Contains-filter (at_home j) inner i c (eq-eqb (home i) j e)))
        | inr ne ↦
            let h = inner_made (j + 1) outer i c (omega (arith, low, ne)) (omega (arith, high)) in
            (h.0, in_tail p (made (j + 1) outer) h.0 h.1, h.2)
      ]

  -- the rings made are these, the inner ones with homes from j on
  ring_made : (j : ℕ) (outer : List Ring) (r : Ring) → Contains (rings_in (made j outer)) r → Contains outer r ⊎ (Contains inner r × (j ≤ home r))
  ring_made j [] r c = absurd (in_none r c)
  ring_made j (q ∷ outer) r c = elim (Contains-append_cases (q ∷ filter (at_home j) inner) (rings_in (made (j + 1) outer)) r c) [
    | inl here ↦ elim (in_cases q (filter (at_home j) inner) r here) [
      | inl e ↦ inl (subst (Contains (q ∷ outer)) e (in_head q outer))
      | inr hole ↦
          let h = Contains-from_filter (at_home j) inner r hole in
          let same = eqb-true (home r) j h.1 in
          inr (h.0, omega (arith, same))
    ]
    | inr later ↦ elim (ring_made (j + 1) outer r later) [
      | inl o ↦ inl (in_tail q outer r o)
      | inr (i, le) ↦ inr (i, omega (arith, le))
    ]
  ]

  -- and each once
  made_differ : (j : ℕ) (outer : List Ring) → Differ outer → Differ inner → ((q i : Ring) → Contains outer q → Contains inner i → q ≢ i) → Differ (rings_in (made j outer))
  made_differ j [] once holes apart = AllPairs-nil (λ q r. q ≢ r)
  made_differ j (q ∷ outer) once holes apart =
      AllPairs-append (λ x y. x ≢ y) (q ∷ filter (at_home j) inner) (rings_in (made (j + 1) outer))
      (AllPairs-cons (λ x y. x ≢ y) q (filter (at_home j) inner)
      (All-from_members (λ y. q ≢ y) (filter (at_home j) inner) (λ i c. apart q i (in_head q outer) (Contains-from_filter (at_home j) inner i c).0))
      (AllPairs-filter (λ x y. x ≢ y) (at_home j) inner holes))
      (made_differ (j + 1) outer (AllPairs-tail (λ x y. x ≢ y) q outer once) holes (λ x i c d. apart x i (in_tail q outer x c) d))
      (All-from_members (λ x. All (λ y. x ≢ y) (rings_in (made (j + 1) outer))) (q ∷ filter (at_home j) inner) (λ x c.
      All-from_members (λ y. x ≢ y) (rings_in (made (j + 1) outer)) (λ y d.
      across x y (in_cases q (filter (at_home j) inner) x c) (ring_made (j + 1) outer y d))))
    where
      across : (x y : Ring) → (q ≡ x) ⊎ Contains (filter (at_home j) inner) x → Contains outer y ⊎ (Contains inner y × (j + 1 ≤ home y)) → x ≢ y
      across x y (inl e) (inl o) = subst (λ z. z ≢ y) e (All-contains (λ z. q ≢ z) outer y (AllPairs-head (λ x y. x ≢ y) q outer once) o)
      across x y (inl e) (inr (i, le)) = subst (λ z. z ≢ y) e (apart q y (in_head q outer) i)
      across x y (inr hole) (inl o) = λ same. apart y x (in_tail q outer y o) (Contains-from_filter (at_home j) inner x hole).0 (sym same)
      across x y (inr hole) (inr (i, le)) =
          let here = eqb-true (home x) j (Contains-from_filter (at_home j) inner x hole).1 in
          λ same. let homes = ap home same in absurd (omega (arith, here, le, homes))

-- ---- where a hole belongs

module _ (lines : List (List Point)) (hole : Ring) where
  abbrev IsFoundIn : ℕ → Option Home → Type 0
  IsFoundIn m None = Unit {0}
  IsFoundIn m (Some h) = h.place < m

  home_within : (found : Option Home) (j : ℕ) (rings : List Ring) (m : ℕ) → 0 < m → j + length rings ≤ m → IsFoundIn m found
      → unwrap_or (option_map (λ h. h.place) (home_from lines hole found j rings)) 0 < m
  home_within None j [] m some le h = some
  home_within (Some g) j [] m some le h = h
  home_within found j (r ∷ rings) m some le h =
      home_within (if is_within lines hole r then Some (nearer found (record { place = j; area = ring_area lines r })) else found) (j + 1) rings m some (omega (arith, le))
      (by (is_within lines hole r) found h)
    where
      near : (g : Home) → g.place < m → (b : Bool) → (if b then record { place = j; area = ring_area lines r } else g).place < m
      near g l true = omega (arith, le)
      near g l false = l

      by : (b : Bool) (found : Option Home) → IsFoundIn m found → IsFoundIn m (if b then Some (nearer found (record { place = j; area = ring_area lines r })) else found)
      by false found h = h
      by true None h = omega (arith, le)
      by true (Some g) h = near g h (int_lt (ring_area lines r) g.area)

-- ---- the polygons of one face

not_flat : (z : ℤ) → int_eq z (pos 0) ≡ false → (int_lt (pos 0) z ≡ true) ⊎ (int_lt z (pos 0) ≡ true)
not_flat (pos zero) e = absurd (true≢false e)
not_flat (pos (suc n)) e = inl (lt-ltb 0 (suc n) (omega arith))
not_flat (negsuc n) e = inr refl

one_sign : (z : ℤ) → int_lt (pos 0) z ≡ true → int_lt z (pos 0) ≡ true → ⊥
one_sign (pos n) e f = absurd (omega (arith, ltb-true n 0 f))
one_sign (negsuc n) e f = absurd (true≢false (sym e))

none_passes : {A : Type 0} (p : A → Bool) (xs : List A) → find p xs ≡ None → All (λ x. p x ≡ false) xs
none_passes p [] e = All-nil (λ x. p x ≡ false)
none_passes {A} p (x ∷ xs) e = by (p x) refl e (none_passes p xs)
  where
    by : (b : Bool) → p x ≡ b → ◌≡◌ {A = Option A} (cond b (Some x) (find p xs)) None → (find p xs ≡ None → All (λ y. p y ≡ false) xs) → All (λ y. p y ≡ false) (x ∷ xs)
    by true f e rest = absurd cc
    by false f e rest = All-cons (λ y. p y ≡ false) x xs f (rest e)

module _ (lines : List (List Point)) (row : FaceRow) (rs : List Ring) where
  abbrev outer : List Ring
  outer = filter (is_outer lines) rs

  abbrev inner : List Ring
  inner = filter (is_inner lines) rs

  abbrev home : Ring → ℕ
  home = home_of lines outer

  -- a polygon of these rings: one that goes round the face, and then those round holes
  pub record IsPart (p : Polygon) : Type 0 where
    pub row_is : p.row ≡ row
    pub first : Ring
    pub holes : List Ring
    pub rings : p.rings ≡ first ∷ holes
    pub round : Contains rs first × (is_outer lines first ≡ true)
    pub inside : All (λ i. Contains rs i × (is_inner lines i ≡ true)) holes

  are_parts : All IsPart (face_polygons lines row rs)
  are_parts = λ k d l.
      let p = get_or (face_polygons lines row rs) k d in
      let made = made_so row home inner 0 outer outer (λ r c. c) k d l in
      record {
        row_is = rows_made row home inner 0 outer k d l;
        first = made.first;
        holes = made.holes;
        rings = made.rings;
        round = Contains-from_filter (is_outer lines) rs made.first made.round;
        inside = λ j e m. Contains-from_filter (is_inner lines) rs (get_or made.holes j e) (made.inside j e m);
      }

  only_these : (r : Ring) → Contains (rings_in (face_polygons lines row rs)) r → Contains rs r
  only_these r c = elim (ring_made row home inner 0 outer r c) [
    | inl o ↦ (Contains-from_filter (is_outer lines) rs r o).0
    | inr i ↦ (Contains-from_filter (is_inner lines) rs r i.0).0
  ]

  each_once : Differ rs → Differ (rings_in (face_polygons lines row rs))
  each_once once =
      made_differ row home inner 0 outer (AllPairs-filter (λ q r. q ≢ r) (is_outer lines) rs once) (AllPairs-filter (λ q r. q ≢ r) (is_inner lines) rs once)
      (λ q i o c same. one_sign (ring_area lines q) (Contains-from_filter (is_outer lines) rs q o).1
      (ap (is_inner lines) same ∙ (Contains-from_filter (is_inner lines) rs i c).1))

  module _ (no : flat_among lines rs ≡ None) where
    whole : All (λ r. is_flat lines r ≡ false) rs × (list_any (is_outer lines) rs ≡ true)
    whole = by (find (is_flat lines) rs) refl no
      where
        some : (b : Bool) → list_any (is_outer lines) rs ≡ b → ◌≡◌ {A = Option Ring} (if b then None else Some (first_ring rs)) None → list_any (is_outer lines) rs ≡ true
        some true e f = e
        some false e f = absurd cc

        by : (o : Option Ring) → find (is_flat lines) rs ≡ o
            → ◌≡◌ {A = Option Ring} (elim o [ Some r ↦ Some r | None ↦ if list_any (is_outer lines) rs then None else Some (first_ring rs) ]) None
            → All (λ r. is_flat lines r ≡ false) rs × (list_any (is_outer lines) rs ≡ true)
        by (Some r) e f = absurd cc
        by None e f = (none_passes (is_flat lines) rs e, some (list_any (is_outer lines) rs) refl f)

    some_outer : 0 < length outer
    some_outer =
        let a = Any-from_list_any (is_outer lines) rs whole.1 in
        let c = Contains-filter (is_outer lines) rs a.1 (a.0, a.2, a.3) a.4 in
        omega (arith, c.1)

    -- each of the rings is in one
    each_in : (r : Ring) → Contains rs r → (p : Polygon) × Contains (face_polygons lines row rs) p × Contains p.rings r
    each_in r c = elim (not_flat (ring_area lines r) (All-contains (λ q. is_flat lines q ≡ false) rs r whole.0 c)) [
      | inl o ↦ outer_made row home inner 0 outer r (Contains-filter (is_outer lines) rs r c o)
      | inr i ↦
          inner_made row home inner 0 outer r (Contains-filter (is_inner lines) rs r c i) (omega arith)
          (home_within lines r None 0 outer (0 + length outer) (omega (arith, some_outer)) (omega arith) tt)
    ]

-- ---- the polygons of all faces

module _ (lines : List (List Point)) (spans : List Span) (rings : List Ring) where
  abbrev of_row : FaceRow → List Polygon
  of_row row = face_polygons lines row (of_face spans row.face rings)

  abbrev has_face : FaceRow → Ring → Bool
  has_face row r = ring_face spans r == row.face

  pub in_face : (row : FaceRow) (r : Ring) → Contains (of_face spans row.face rings) r → Contains rings r × (ring_face spans r ≡ row.face)
  in_face row r c = let h = Contains-from_filter (has_face row) rings r c in (h.0, eqb-true (ring_face spans r) row.face h.1)

  -- a ring of these polygons has the face of a row
  ring_of_row : (rows : List FaceRow) (r : Ring) → Contains (rings_in (flat_map of_row rows)) r → (row : FaceRow) × Contains rows row × Contains rings r × (ring_face spans r ≡ row.face)
  ring_of_row rows r c =
      let p = Contains-from_flat_map (λ (p : Polygon). p.rings) (flat_map of_row rows) r c in
      let row = Contains-from_flat_map of_row rows p.0 p.1 in
      let h = in_face row.0 r (only_these lines row.0 (of_face spans row.0.face rings) r
      (Contains-flat_map (λ (p : Polygon). p.rings) (of_row row.0) p.0 r row.2 p.2)) in
      (row.0, row.1, h.0, h.1)

  rows_differ : (rows : List FaceRow) → AllPairs (λ q r. q.face ≢ r.face) rows → Differ rings → Differ (rings_in (flat_map of_row rows))
  rows_differ [] apart once = AllPairs-nil (λ q r. q ≢ r)
  rows_differ (row ∷ rows) apart once =
      subst Differ (sym (flat_map-append (λ (p : Polygon). p.rings) (of_row row) (flat_map of_row rows)))
      (AllPairs-append (λ q r. q ≢ r) (rings_in (of_row row)) (rings_in (flat_map of_row rows))
      (each_once lines row (of_face spans row.face rings) (AllPairs-filter (λ q r. q ≢ r) (has_face row) rings once))
      (rows_differ rows (AllPairs-tail (λ q r. q.face ≢ r.face) row rows apart) once)
      (All-from_members (λ x. All (λ y. x ≢ y) (rings_in (flat_map of_row rows))) (rings_in (of_row row)) (λ x c.
      All-from_members (λ y. x ≢ y) (rings_in (flat_map of_row rows)) (λ y d same.
      let here = in_face row x (only_these lines row (of_face spans row.face rings) x c) in
      let there = ring_of_row rows y d in
      All-contains (λ r. row.face ≢ r.face) rows there.0 (AllPairs-head (λ q r. q.face ≢ r.face) row rows apart) there.1
      (sym here.1 ∙ ap (ring_face spans) same ∙ there.3)))))

  none_flat : (edges : List Edge) (rows : List FaceRow) → lines ≡ lines_of edges → flat_of edges (λ f. of_face spans f rings) rows ≡ None
      → All (λ row. flat_among lines (of_face spans row.face rings) ≡ None) rows
  none_flat edges [] same e = All-nil (λ row. flat_among lines (of_face spans row.face rings) ≡ None)
  none_flat edges (row ∷ rows) same e = by (flat_among (lines_of edges) (of_face spans row.face rings)) refl e (none_flat edges rows same)
    where
      by : (o : Option Ring) → flat_among (lines_of edges) (of_face spans row.face rings) ≡ o
          → ◌≡◌ {A = Option FlatRing} (elim o [ Some r ↦ Some (record { face = row.face; key = ring_key edges r }) | None ↦ flat_of edges (λ f. of_face spans f rings) rows ]) None
          → (flat_of edges (λ f. of_face spans f rings) rows ≡ None → All (λ r. flat_among lines (of_face spans r.face rings) ≡ None) rows)
          → All (λ r. flat_among lines (of_face spans r.face rings) ≡ None) (row ∷ rows)
      by (Some r) f g rest = absurd cc
      by None f g rest =
          All-cons (λ r. flat_among lines (of_face spans r.face rings) ≡ None) row rows
          (ap (λ ls. flat_among ls (of_face spans row.face rings)) same ∙ f) (rest g)

-- What is known of the polygons of a slice.
pub record ArePolygons (lines : List (List Point)) (spans : List Span) (rows : List FaceRow) (polygons : List Polygon) : Type 0 where
  pub parts : (p : Polygon) → Contains polygons p → (row : FaceRow) × Contains rows row × IsPart lines row (of_face spans row.face (rings_of spans)) p
  pub each : (row : FaceRow) → Contains rows row → (r : Ring) → Contains (rings_of spans) r → ring_face spans r ≡ row.face → (p : Polygon) × Contains polygons p × Contains p.rings r
  pub once : Differ (rings_of spans) → AllPairs (λ q r. q.face ≢ r.face) rows → Differ (rings_in polygons)

pub are_polygons : (edges : List Edge) (ends : List EdgeEnds) (rows : List FaceRow) (polygons : List Polygon) → polygons_of edges ends rows ≡ Ok polygons
    → ArePolygons (lines_of edges) (spans_of edges ends) rows polygons
unfolding polygons_of
are_polygons edges ends rows polygons e = by (flat_of edges (λ f. of_face (spans_of edges ends) f (rings_of (spans_of edges ends))) rows) refl e
  where
    known : flat_of edges (λ f. of_face (spans_of edges ends) f (rings_of (spans_of edges ends))) rows ≡ None → ArePolygons (lines_of edges) (spans_of edges ends) rows
        (flat_map (λ row. face_polygons (lines_of edges) row (of_face (spans_of edges ends) row.face (rings_of (spans_of edges ends)))) rows)
    known f = record {
      parts = λ p c.
          let row = Contains-from_flat_map (of_row (lines_of edges) (spans_of edges ends) (rings_of (spans_of edges ends))) rows p c in (
            row.0,
            row.1,
            All-contains (IsPart (lines_of edges) row.0 (of_face (spans_of edges ends) row.0.face (rings_of (spans_of edges ends)))) (of_row (lines_of edges) (spans_of edges ends) (rings_of (spans_of edges ends)) row.0) p
                (are_parts (lines_of edges) row.0 (of_face (spans_of edges ends) row.0.face (rings_of (spans_of edges ends)))) row.2,
          );
      each = λ row c r d same.
          let none = All-contains (λ row. flat_among (lines_of edges) (of_face (spans_of edges ends) row.face (rings_of (spans_of edges ends))) ≡ None) rows row
          (none_flat (lines_of edges) (spans_of edges ends) (rings_of (spans_of edges ends)) edges rows refl f) c in
          let h = each_in (lines_of edges) row (of_face (spans_of edges ends) row.face (rings_of (spans_of edges ends))) none r
          (Contains-filter (has_face (lines_of edges) (spans_of edges ends) (rings_of (spans_of edges ends)) row) (rings_of (spans_of edges ends)) r d (eq-eqb (ring_face (spans_of edges ends) r) row.face same)) in
          (h.0, Contains-flat_map (of_row (lines_of edges) (spans_of edges ends) (rings_of (spans_of edges ends))) rows row h.0 c h.1, h.2);
      once = λ differ apart. rows_differ (lines_of edges) (spans_of edges ends) (rings_of (spans_of edges ends)) rows apart differ;
    }

    by : (o : Option FlatRing) → flat_of edges (λ f. of_face (spans_of edges ends) f (rings_of (spans_of edges ends))) rows ≡ o
        → ◌≡◌ {A = Result (List Polygon) FlatRing} (elim o [
          | Some flat ↦ Err flat
          | None ↦ Ok (flat_map (λ row. face_polygons (lines_of edges) row (of_face (spans_of edges ends) row.face (rings_of (spans_of edges ends)))) rows)
        ]) (Ok polygons)
        → ArePolygons (lines_of edges) (spans_of edges ends) rows polygons
    by (Some flat) f g = absurd cc
    by None f g =
        let same : flat_map (λ row. face_polygons (lines_of edges) row (of_face (spans_of edges ends) row.face (rings_of (spans_of edges ends)))) rows ≡ polygons = cc in
        subst (ArePolygons (lines_of edges) (spans_of edges ends) rows) same (known f)
