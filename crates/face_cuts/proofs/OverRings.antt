-- The decision for a ring: by a set of the sides on the walk, and alike for each of its sides.
use Rattle.std.proofs.Common.{◌≡◌, ℕ, ◌+◌, ◌<◌, ◌==◌, Bool, true, false, ◌||◌, ◌&&◌, Option, Some, None, List, [], ◌∷◌, ◌++◌, length, filter, get_or, take, drop, All, refl, sym, ap, ap₂, ◌∙◌, subst, if◌then◌else◌, arith}
use Rattle.std.specs.Prelude.{cond, slice_index_or}
use Rattle.std.specs.List.{flat_map, list_any, range_with_len}
use Rattle.std.proofs.lemmas.Bool.Decides.{nat_tests}
use Rattle.std.proofs.lemmas.Bool.{and_from}
use Rattle.std.proofs.lemmas.List.{get_or_default, take-append-drop, take_more}
use Rattle.std.proofs.lemmas.List.Elements.{All-append, All-cons, All-head, All-nil, All-tail}
use Rattle.std.proofs.lemmas.List.Folds.{list_any-append, list_any_none, Any-from_list_any, list_any-from_Any}
use Rattle.tgap_model.specs.declared.geometry.Point.{Point}
use Rattle.tgap_model.specs.declared.geometry.Seg.{Seg}
use Rattle.tgap_model.specs.declared.base.BaseArc.{BaseArc}
use Rattle.ring_walk.specs.declared.span.Span.{Span}
use Rattle.ring_walk.specs.declared.side.Side.{Side}
use Rattle.ring_walk.specs.Areas.{first_leaning, segments_of}
use Rattle.ring_walk.specs.Sides.{same_side, side_number}
use Rattle.ring_walk.specs.Rings.{is_in_ring, next_side, ring_from}
use Rattle.ring_walk.specs.Spans.{IsRing, IsSide}
use Rattle.ring_walk.proofs.Orbits.{IsCycle}
use Rattle.ring_walk.proofs.SideNumbers.{same_side-itself, same_side-true}
use Rattle.face_cuts.specs.Cuts.{goes_over, have_common, is_at_left, least_leaning, lines_of}
use Rattle.face_cuts.specs.NewRings.{in_row}
use Rattle.face_cuts.specs.Moves.{AreRingsOf, IsRingOf, is_moved}
use Rattle.face_cuts.specs.Sectors.{spans_of}
use Rattle.face_cuts.proofs.Cases.{by_test}
use Rattle.face_cuts.proofs.FreePoints.{any_agree}
use Rattle.face_cuts.proofs.TurnedRings.{cycle_turned, ring_cycle, turn}

-- ---- notes and sets of sides

equal_back : (m n : ℕ) → (m == n) ≡ (n == m)
equal_back m n = by_test (m == n)
    (λ e. let f : (n == m) ≡ true = grind (arith, nat_tests) in e ∙ sym f)
    (λ e. let f : (n == m) ≡ false = grind (arith, nat_tests) in e ∙ sym f)

-- the side with a number is in a row
pub in_row_is : (row : List Side) (s : Side) → in_row row (side_number s) ≡ list_any (same_side s) row
in_row_is row s = any_agree (λ t. side_number t == side_number s) (same_side s) row (λ t. equal_back (side_number t) (side_number s))

-- a row has a side of the walk where one of its sides is in the set of these
pub set_common : (walk row : List Side) (has : Side → Bool) → ((s : Side) → has s ≡ list_any (same_side s) walk) → list_any has row ≡ have_common row walk
set_common walk row has h = any_agree has (λ s. list_any (same_side s) walk) row h

-- ---- the decision

module _ (lines : List (List Point)) (points : List Point) (walk : List Side) where
  abbrev decision : Bool → Option Seg → Bool
  decision common least = if common then false else elim least [ None ↦ false | Some s ↦ is_at_left lines points walk s ]

  pub over_common : (row : List Side) → have_common row walk ≡ true → goes_over lines points walk row ≡ false
  over_common row e = ap (λ b. decision b (least_leaning lines row)) e

  pub over_least : (row : List Side) (o : Option Seg) → have_common row walk ≡ false → least_leaning lines row ≡ o → goes_over lines points walk row ≡ (elim o [ None ↦ false | Some s ↦ is_at_left lines points walk s ])
  over_least row o e f = ap₂ decision e f

  -- it is the same for rows that have the same sides
  flat_map_agree : {A B : Type 0} (f g : A → List B) (xs : List A) → ((x : A) → f x ≡ g x) → flat_map f xs ≡ flat_map g xs
  flat_map_agree f g [] h = refl
  flat_map_agree f g (x ∷ xs) h = ap₂ (λ ys zs. ys ++ zs) (h x) (flat_map_agree f g xs h)

  pub over_same : (row other : List Side) → ((p : Side → Bool) → list_any p row ≡ list_any p other) → goes_over lines points walk row ≡ goes_over lines points walk other
  over_same row other h =
      let at = λ (r : List Side) (i : ℕ). if list_any (λ (s : Side). s.span == i) r then segments_of (slice_index_or lines i []) else [] in
      ap₂ decision (h (λ s. list_any (same_side s) walk))
      (ap first_leaning (flat_map_agree (at row) (at other) (range_with_len 0 (length lines)) (λ i. ap (λ (b : Bool). if b then segments_of (slice_index_or lines i []) else []) (h (λ (s : Side). s.span == i)))))

-- ---- the sides of one ring

or_swap : (a b : Bool) → (a || b) ≡ (b || a)
or_swap true true = refl
or_swap true false = refl
or_swap false true = refl
or_swap false false = refl

any_turned : (p : Side → Bool) (k : ℕ) (row : List Side) → list_any p (turn k row) ≡ list_any p row
any_turned p k row =
    list_any-append p (drop k row) (take k row) ∙ or_swap (list_any p (drop k row)) (list_any p (take k row))
    ∙ sym (list_any-append p (take k row) (drop k row)) ∙ ap (list_any p) (take-append-drop k row)

module _ (spans : List Span) where
  pub ring_of_cycle : (ring : List Side) → (h : IsRingOf spans ring) → IsCycle (length spans) (next_side spans) h.first ring
  ring_of_cycle ring h = subst (IsCycle (length spans) (next_side spans) h.first) (sym h.is) (ring_cycle spans h.first h.within)

  pub ring_sides : (ring : List Side) → IsRingOf spans ring → IsRing (length spans) ring
  ring_sides ring h = let c = ring_of_cycle ring h in record { sides = c.within; short = c.short }

  -- a side stands in its own ring
  pub in_own_ring : (s : Side) → IsSide (length spans) s → list_any (same_side s) (ring_from spans s) ≡ true
  in_own_ring s l =
      let c = ring_cycle spans s l in
      list_any-from_Any (same_side s) (ring_from spans s) (0, s, c.some, c.follows 0 s c.some, same_side-itself s)

  -- the row of next sides of a side of a ring
  ring_turned : (ring : List Side) (k : ℕ) (d : Side) → IsRingOf spans ring → k < length ring → ring_from spans (get_or ring k d) ≡ turn k ring
  ring_turned ring k d h l =
      ap (ring_from spans) (get_or_default ring k d h.first l) ∙ cycle_turned (length spans) (next_side spans) h.first ring (ring_of_cycle ring h) k l

  module _ (lines : List (List Point)) (points : List Point) (walk : List Side) where
    abbrev takes : Side → List Side → Bool
    takes s ring = goes_over lines points walk ring && list_any (same_side s) ring

    -- a ring that has the side is decided as the row of the side
    over_as : (s : Side) (ring : List Side) → IsRingOf spans ring → list_any (same_side s) ring ≡ true → goes_over lines points walk ring ≡ goes_over lines points walk (ring_from spans s)
    over_as s ring h e =
        let a = Any-from_list_any (same_side s) ring e in
        let is : s ≡ get_or ring a.0 a.1 = same_side-true s a.1 a.4 ∙ sym a.3 in
        let row : ring_from spans s ≡ turn a.0 ring = ap (ring_from spans) is ∙ ring_turned ring a.0 a.1 h a.2 in
        sym (ap (goes_over lines points walk) row ∙ over_same lines points walk (turn a.0 ring) ring (λ p. any_turned p a.0 ring))

    -- the rings that go over have the side exactly where its row goes over
    pub decided_once : (rings : List (List Side)) (s : Side) → All (IsRingOf spans) rings → is_in_ring rings s ≡ true → list_any (takes s) rings ≡ goes_over lines points walk (ring_from spans s)
    decided_once rings s formed among = by_test (goes_over lines points walk (ring_from spans s))
        (λ e.
        let a = Any-from_list_any (λ ring. list_any (same_side s) ring) rings among in
        let ring = a.1 in
        let h : IsRingOf spans ring = subst (IsRingOf spans) a.3 (formed a.0 a.1 a.2) in
        let over : goes_over lines points walk ring ≡ true = over_as s ring h a.4 ∙ e in
        list_any-from_Any (takes s) rings (a.0, ring, a.2, a.3, and_from _ _ over a.4) ∙ sym e)
        (λ e.
        list_any_none (takes s) rings (λ k d m.
        let ring = get_or rings k d in
        by_test (list_any (same_side s) ring)
        (λ has. ap (λ b. b && list_any (same_side s) ring) (over_as s ring (formed k d m) has ∙ e))
        (λ none. ap (λ b. goes_over lines points walk ring && b) none ∙ and_false (goes_over lines points walk ring)))
        ∙ sym e)
      where
        and_false : (b : Bool) → (b && false) ≡ false
        and_false true = refl
        and_false false = refl

  -- ---- rings of some sides, one more

  module _ (rings : List (List Side)) (ring : List Side) where
    -- a side is in them where it was in the others, or is in this one
    pub in_more : (s : Side) → is_in_ring (rings ++ ring ∷ []) s ≡ (is_in_ring rings s || list_any (same_side s) ring)
    in_more s = list_any-append (λ r. list_any (same_side s) r) rings (ring ∷ []) ∙ by (is_in_ring rings s) (list_any (same_side s) ring)
      where
        by : (a b : Bool) → (a || (b || false)) ≡ (a || b)
        by true b = refl
        by false true = refl
        by false false = refl

    pub formed_more : All (IsRingOf spans) rings → IsRingOf spans ring → All (IsRingOf spans) (rings ++ ring ∷ [])
    formed_more all h = All-append (IsRingOf spans) rings (ring ∷ []) all (All-cons (IsRingOf spans) ring [] h (All-nil (IsRingOf spans)))

  -- one side more of a row is in the rings
  pub among_more : (rings more : List (List Side)) (row : List Side) (k : ℕ) (s : Side) → k < length row → s ≡ get_or row k s → ((t : Side) → is_in_ring rings t ≡ true → is_in_ring more t ≡ true) → is_in_ring more s ≡ true
      → All (λ t. is_in_ring rings t ≡ true) (take k row) → All (λ t. is_in_ring more t ≡ true) (take (k + 1) row)
  among_more rings more row k s l here kept new all =
      let P = λ (t : Side). is_in_ring more t ≡ true in
      subst (All P) (sym (take_more row k s l ∙ ap (λ (t : Side). take k row ++ t ∷ []) (sym here)))
      (All-append P (take k row) (s ∷ []) (λ i d m. kept (get_or (take k row) i d) (all i d m)) (All-cons P s [] new (All-nil P)))

-- ---- the sides of the rings that go over, ring by ring

pub rings_more : (ring : List Side) (p test : List Side → Bool) (rings : List (List Side)) (w old new : Bool) (i : ℕ) → i < length rings → ring ≡ get_or rings i ring → p ring ≡ true
    → new ≡ (old || test ring) → old ≡ (w || list_any (λ r. p r && test r) (take i rings)) → new ≡ (w || list_any (λ r. p r && test r) (take (i + 1) rings))
rings_more ring p test rings w old new i l here e noted so_far =
    let q = λ (r : List Side). p r && test r in
    let more : list_any q (take (i + 1) rings) ≡ (list_any q (take i rings) || (q ring || false)) =
    ap (list_any q) (take_more rings i ring l ∙ ap (λ (r : List Side). take i rings ++ r ∷ []) (sym here)) ∙ list_any-append q (take i rings) (ring ∷ []) in
    noted ∙ ap (λ b. b || test ring) so_far ∙ by w (list_any q (take i rings)) (test ring)
    ∙ sym (ap (λ b. w || b) more ∙ ap (λ b. w || (list_any q (take i rings) || ((b && test ring) || false))) e)
  where
    by : (a b c : Bool) → ((a || b) || c) ≡ (a || (b || ((true && c) || false)))
    by true b c = refl
    by false true c = refl
    by false false true = refl
    by false false false = refl

pub rings_same : (ring : List Side) (p test : List Side → Bool) (rings : List (List Side)) (w now : Bool) (i : ℕ) → i < length rings → ring ≡ get_or rings i ring → p ring ≡ false
    → now ≡ (w || list_any (λ r. p r && test r) (take i rings)) → now ≡ (w || list_any (λ r. p r && test r) (take (i + 1) rings))
rings_same ring p test rings w now i l here e so_far =
    let q = λ (r : List Side). p r && test r in
    let more : list_any q (take (i + 1) rings) ≡ (list_any q (take i rings) || (q ring || false)) =
    ap (list_any q) (take_more rings i ring l ∙ ap (λ (r : List Side). take i rings ++ r ∷ []) (sym here)) ∙ list_any-append q (take i rings) (ring ∷ []) in
    so_far ∙ ap (λ b. w || b) (sym (more ∙ ap (λ b. list_any q (take i rings) || ((b && test ring) || false)) e ∙ by (list_any q (take i rings))))
  where
    by : (a : Bool) → (a || false) ≡ a
    by true = refl
    by false = refl

-- ---- the sides that go over

filter_agree_on : {A : Type 0} (p q : A → Bool) (xs : List A) → All (λ x. p x ≡ q x) xs → filter p xs ≡ filter q xs
filter_agree_on p q [] h = refl
filter_agree_on p q (x ∷ xs) h = ap₂ (λ (b : Bool) ys. cond b (x ∷ ys) ys) (All-head (λ y. p y ≡ q y) x xs h) (filter_agree_on p q xs (All-tail (λ y. p y ≡ q y) x xs h))

-- a set that has the sides of the walk and of the rings that go over keeps those that go over
pub kept_are : (arcs : List BaseArc) (points : List Point) (walk row : List Side) (rings : List (List Side)) (has : Side → Bool) → AreRingsOf (spans_of arcs) row rings
    → ((s : Side) → has s ≡ (list_any (same_side s) walk || list_any (λ r. goes_over (lines_of arcs) points walk r && list_any (same_side s) r) rings))
    → filter has row ≡ filter (is_moved arcs points walk) row
kept_are arcs points walk row rings has h each =
    filter_agree_on has (is_moved arcs points walk) row (λ k d l.
    let s = get_or row k d in
    each s ∙ ap (λ (b : Bool). list_any (same_side s) walk || b) (decided_once (spans_of arcs) (lines_of arcs) points walk rings s h.formed (h.each k d l)))
