-- What `based` makes of a topology is told of its rings: the base map has the sides that they take, and its fault is the first one.
use Rattle.std.proofs.Common.{◌≡◌, ◌≢◌, inl, inr, ℕ, zero, suc, ◌+◌, ◌<◌, ◌≤◌, ◌==◌, ◌||◌, Bool, true, false, cond, List, [], ◌∷◌, length, get_or, map, filter, IfOk, MatchResult, Result, Ok, Err, refl, sym, ap, ◌∙◌, subst, true≢false, arith, IsTrue, Contains, AllPairs}
use Rattle.std.specs.List.{list_any, range_with_len, AllZip}
use Rattle.std.proofs.lemmas.Bool.{cases_eq, eqb-true, eqb-false, eq-eqb, or_left, or_right, false_from_ne_true}
use Rattle.std.proofs.lemmas.List.{length-map}
use Rattle.std.proofs.lemmas.List.Kept.{AllPairs-cons}
use Rattle.lemmas.proofs.Members.{in_head, in_tail, in_cases, All-from_members}
use Rattle.tgap_model.specs.declared.geometry.Point.{Point}
use Rattle.tgap_model.specs.declared.base.BaseArc.{BaseArc}
use Rattle.tgap_model.specs.declared.topology.NamedRules.{NamedRules}
use Rattle.tgap_model.specs.declared.topology.RawMap.{RawMap}
use Rattle.tgap_model.specs.declared.failure.Or.{Or}
use Rattle.tgap_model.specs.declared.failure.Or.TheVariants.{Fault}
use Rattle.tgap_model.specs.declared.fault.MapFault.{MapFault}
use Rattle.tgap_model.specs.declared.fault.MapFault.TheVariants.{SameSides}
use Rattle.tgap_model.specs.Base.{BaseMap}
use Rattle.line_forms.specs.Lines.{◌>>=◌}
use Rattle.line_forms.specs.Json.{ensured, try_fold}
use Rattle.topology_forms.specs.Rings.{Taken, polygon_taken, nothing_taken, sided_from, based, is_raw_map}
use Rattle.plain_io.specs.Taking.{GivesWhole}
use Rattle.ring_sides.specs.FaceRings.{faces}
use Rattle.ring_sides.specs.Places.{face_rings, Taking, sides_taken, Takes}
use Rattle.ring_sides.specs.Sides.{TakesSide, IsFaceAt, IsSidedArc, AreArcsTaken, HasRingSides}
use Rattle.ring_sides.specs.RingFaults.{IsFaultAmong, IsRingFault}
use Rattle.ring_sides.proofs.Takings.{in_turn, taking, AreFacesAt}
use Rattle.ring_sides.proofs.FaceRings.{Follows, class_of, polygons_step}
use Rattle.ring_sides.proofs.Read.{raw_map_facts}
use Rattle.ring_sides.proofs.RingTakings.{each_whole, taken_is_side, side_is_taken}
use Rattle.ring_sides.proofs.TakenSides.{named_below}

-- ---- the arcs of which a side is taken

abbrev is_taken : List Taking → ℕ → Bool
is_taken takings a = list_any (λ t. t.arc == a) takings

abbrev arcs_taken : RawMap → List ℕ
arcs_taken raw = filter (is_taken (sides_taken raw)) (range_with_len 0 (length raw.arcs))

-- a side of such an arc
taken_side : (takings : List Taking) (a : ℕ) → is_taken takings a ≡ true → (left : Bool) × (f : ℕ) × Takes takings a left f
taken_side [] a e = absurd (true≢false (sym e))
taken_side (t ∷ takings) a e = by (t.arc == a) refl e (taken_side takings a)
  where
    by : (here : Bool) → (t.arc == a) ≡ here → (here || is_taken takings a) ≡ true → (is_taken takings a ≡ true → (left : Bool) × (f : ℕ) × Takes takings a left f)
        → (left : Bool) × (f : ℕ) × Takes (t ∷ takings) a left f
    by true same e later =
        let arc = eqb-true t.arc a same in
        let is : t ≡ taking a t.left t.face = λ i. record { arc = arc i; left = t.left; face = t.face } in
        (t.left, t.face, (0, omega arith, is))
    by false other e later = let found = later e in (found.0, found.1, (suc found.2.0, omega (arith, found.2.1), found.2.2))

side_taken_is : (takings : List Taking) (a : ℕ) (left : Bool) (f : ℕ) → Takes takings a left f → is_taken takings a ≡ true
side_taken_is [] a left f at = absurd (omega (arith, at.1))
side_taken_is (t ∷ takings) a left f at = by at.0 at.1 at.2 (side_taken_is takings a left f)
  where
    by : (k : ℕ) → k < length (t ∷ takings) → get_or (t ∷ takings) k (taking a left f) ≡ taking a left f → (Takes takings a left f → is_taken takings a ≡ true)
        → is_taken (t ∷ takings) a ≡ true
    by zero inside e later = or_left (t.arc == a) (is_taken takings a) (eq-eqb t.arc a (ap (λ (s : Taking). s.arc) e))
    by (suc k) inside e later = or_right (t.arc == a) (is_taken takings a) (later (k, omega (arith, inside), e))

-- the numbers from a on, n of them, that pass a test
record AreNumbers (test : ℕ → Bool) (a n : ℕ) (numbers : List ℕ) : Type 0 where
  from : (b : ℕ) → Contains numbers b → a ≤ b
  pass : (b : ℕ) → Contains numbers b → test b ≡ true
  all : (b : ℕ) → a ≤ b → b < a + n → test b ≡ true → Contains numbers b
  ascending : AllPairs ◌<◌ numbers

-- a number that is less than all of a list stands before them
least_first : (a : ℕ) (numbers : List ℕ) → ((b : ℕ) → Contains numbers b → a < b) → AllPairs ◌<◌ numbers → AllPairs ◌<◌ (a ∷ numbers)
least_first a numbers less h = AllPairs-cons ◌<◌ a numbers (All-from_members (λ b. a < b) numbers less) h

numbers_that_pass : (test : ℕ → Bool) (a n : ℕ) → AreNumbers test a n (filter test (range_with_len a n))
numbers_that_pass test a zero = record {
  from = λ b at. absurd (omega (arith, at.1));
  pass = λ b at. absurd (omega (arith, at.1));
  all = λ b low high e. absurd (omega (arith, low, high));
  ascending = λ i j d low inside. absurd (omega (arith, inside));
}
numbers_that_pass test a (suc n) = by (test a) refl (numbers_that_pass test (a + 1) n)
  where
    rest : List ℕ
    rest = filter test (range_with_len (a + 1) n)

    by : (here : Bool) → test a ≡ here → AreNumbers test (a + 1) n rest → AreNumbers test a (suc n) (cond here (a ∷ rest) rest)
    by true e h = record {
      from = λ b at. elim (in_cases a rest b at) [ inl same ↦ omega (arith, same) | inr later ↦ (let low = h.from b later in omega (arith, low)) ];
      pass = λ b at. elim (in_cases a rest b at) [ inl same ↦ ap test (sym same) ∙ e | inr later ↦ h.pass b later ];
      all = λ b low high passes. elim (cases_eq a b) [
        | inl same ↦ subst (Contains (a ∷ rest)) same (in_head a rest)
        | inr other ↦ in_tail a rest b (h.all b (omega (arith, low, other)) (omega (arith, high)) passes)
      ];
      ascending = least_first a rest (λ b at. let low = h.from b at in omega (arith, low)) h.ascending;
    }
    by false e h = record {
      from = λ b at. (let low = h.from b at in omega (arith, low));
      pass = h.pass;
      all = λ b low high passes. elim (cases_eq a b) [
        | inl same ↦ absurd (true≢false (sym passes ∙ ap test (sym same) ∙ e))
        | inr other ↦ h.all b (omega (arith, low, other)) (omega (arith, high)) passes
      ];
      ascending = h.ascending;
    }

-- the arcs of which a face takes a side
are_taken : (raw : RawMap) → AreArcsTaken raw (arcs_taken raw)
are_taken raw =
    let h = numbers_that_pass (is_taken (sides_taken raw)) 0 (length raw.arcs) in record {
      ascending = h.ascending;
      taken = λ a at. (let found = taken_side (sides_taken raw) a (h.pass a at) in (found.0, found.1, taken_is_side raw a found.0 found.1 found.2));
      all = λ a left f at.
          let below : a < length raw.arcs = subst (λ (n : ℕ). n < length raw.arcs) at.names (named_below raw.arcs f at.index at.long) in
          h.all a (omega arith) (omega (arith, below)) (side_taken_is (sides_taken raw) a left f (side_is_taken raw a left f at));
    }

-- the face at a side is told by the rings that take it
face_at : (raw : RawMap) (left : Bool) (side : List ℕ) → AreFacesAt (sides_taken raw) left side → (a : ℕ) → IsFaceAt raw a left (get_or side a 0)
face_at raw left side h a = record {
  taken = λ some. taken_is_side raw a left (get_or side a 0) (h.taken a (omega (arith, some)));
  free = λ none g at. (let known = h.known a g (side_is_taken raw a left g at) in omega (arith, none, known.0, known.1));
  alone = λ g at. sym (h.known a g (side_is_taken raw a left g at)).0;
}

module _ (raw : RawMap) where
  -- these are the points and the sides of the arcs from number a on
  record AreSides (a : ℕ) (arcs : List (List Point)) (left right : List ℕ) : Type 0 where
    points : (k : ℕ) → get_or arcs k [] ≡ get_or raw.arcs (a + k) []
    at_left : (k : ℕ) → IsFaceAt raw (a + k) true (get_or left k 0)
    at_right : (k : ℕ) → IsFaceAt raw (a + k) false (get_or right k 0)
    many_left : length left ≡ length arcs
    many_right : length right ≡ length arcs

  -- no arc before this one has one face at both sides
  abbrev AreApartBefore : ℕ → Type 0
  AreApartBefore a = (b g : ℕ) → b < a → TakesSide raw b true g → TakesSide raw b false g → ⊥

  -- the fault of the first arc that has
  record IsBoth (fault : MapFault) : Type 0 where
    arc : ℕ
    face : ℕ
    left : TakesSide raw arc true face
    right : TakesSide raw arc false face
    first : AreApartBefore arc
    is : fault ≡ SameSides arc face

  -- the arcs from number a on, of which there are so many, are those of the base map
  abbrev AreSided : ℕ → ℕ → List BaseArc → Type 0
  AreSided a n arcs = AllZip (IsSidedArc raw) (filter (is_taken (sides_taken raw)) (range_with_len a n)) arcs

  -- the sides of the arcs after the first
  sides_rest : (a : ℕ) (points : List Point) (arcs : List (List Point)) (l r : ℕ) (left right : List ℕ) → AreSides a (points ∷ arcs) (l ∷ left) (r ∷ right) → AreSides (a + 1) arcs left right
  sides_rest a points arcs l r left right h = record {
    points = λ k. h.points (suc k) ∙ ap (λ (n : ℕ). get_or raw.arcs n []) (omega arith);
    at_left = λ k. (let next : a + suc k ≡ a + 1 + k = omega arith in subst (λ (n : ℕ). IsFaceAt raw n true (get_or left k 0)) next (h.at_left (suc k)));
    at_right = λ k. (let next : a + suc k ≡ a + 1 + k = omega arith in subst (λ (n : ℕ). IsFaceAt raw n false (get_or right k 0)) next (h.at_right (suc k)));
    many_left = omega (arith, h.many_left);
    many_right = omega (arith, h.many_right);
  }

  -- an arc whose sides differ is one more
  apart_more : (a : ℕ) → AreApartBefore a → ((g : ℕ) → TakesSide raw a true g → TakesSide raw a false g → ⊥) → AreApartBefore (a + 1)
  apart_more a before here b g low at_left at_right = elim (cases_eq b a) [
    | inl same ↦
        here g (subst (λ (n : ℕ). TakesSide raw n true g) same at_left) (subst (λ (n : ℕ). TakesSide raw n false g) same at_right)
    | inr other ↦ before b g (omega (arith, low, other)) at_left at_right
  ]

  -- the first arc
  module _ (a : ℕ) (points : List Point) (l r : ℕ) (is_points : points ≡ get_or raw.arcs a []) (hl : IsFaceAt raw a true l) (hr : IsFaceAt raw a false r) where
    -- both sides are free
    none_taken : l ≡ 0 → r ≡ 0 → is_taken (sides_taken raw) a ≡ false
    none_taken el er = false_from_ne_true (is_taken (sides_taken raw) a) (λ e. let found = taken_side (sides_taken raw) a e in by found.0 found.1 found.2)
      where
        by : (left : Bool) (f : ℕ) → Takes (sides_taken raw) a left f → ⊥
        by true f at = hl.free el f (taken_is_side raw a true f at)
        by false f at = hr.free er f (taken_is_side raw a false f at)

    one_taken : l ≢ r → is_taken (sides_taken raw) a ≡ true
    one_taken apart = elim (cases_eq l 0) [
      | inr some ↦ side_taken_is (sides_taken raw) a true l (side_is_taken raw a true l (hl.taken some))
      | inl none ↦ side_taken_is (sides_taken raw) a false r (side_is_taken raw a false r (hr.taken (λ e. apart (none ∙ sym e))))
    ]

    one_sided : l ≢ r → IsSidedArc raw a (record { left = l; right = r; points = points })
    one_sided apart = record { points = is_points; left = hl; right = hr; apart = apart }

    differ : l ≢ r → (g : ℕ) → TakesSide raw a true g → TakesSide raw a false g → ⊥
    differ apart g at_left at_right = apart (sym (hl.alone g at_left) ∙ hr.alone g at_right)

  sided_step : (a : ℕ) (arcs : List (List Point)) (left right : List ℕ) → AreSides a arcs left right → AreApartBefore a
      → MatchResult (sided_from a arcs left right) (AreSided a (length arcs)) IsBoth
  sided_step a [] left right h before = tt
  sided_step a (points ∷ arcs) [] right h before = absurd (omega (arith, h.many_left))
  sided_step a (points ∷ arcs) (l ∷ left) [] h before = absurd (omega (arith, h.many_right))
  sided_step a (points ∷ arcs) (l ∷ left) (r ∷ right) h before =
      by (l == r) refl (sided_step (a + 1) arcs left right (sides_rest a points arcs l r left right h))
    where
      same : a + 0 ≡ a
      same = omega arith

      hl : IsFaceAt raw a true l
      hl = subst (λ (n : ℕ). IsFaceAt raw n true l) same (h.at_left 0)

      hr : IsFaceAt raw a false r
      hr = subst (λ (n : ℕ). IsFaceAt raw n false r) same (h.at_right 0)

      is_points : points ≡ get_or raw.arcs a []
      is_points = h.points 0 ∙ ap (λ (n : ℕ). get_or raw.arcs n []) same

      arc : BaseArc
      arc = record { left = l; right = r; points = points }

      rest : Result (List BaseArc) MapFault
      rest = sided_from (a + 1) arcs left right

      kept : List ℕ
      kept = filter (is_taken (sides_taken raw)) (range_with_len (a + 1) (length arcs))

      by_free : l ≡ r → (free : Bool) → (l == 0) ≡ free → (AreApartBefore (a + 1) → MatchResult rest (AllZip (IsSidedArc raw) kept) IsBoth)
          → MatchResult (ensured free (SameSides a l) >>= λ _. rest) (AllZip (IsSidedArc raw) (cond (is_taken (sides_taken raw) a) (a ∷ kept) kept)) IsBoth
      by_free one true e go =
          let el = eqb-true l 0 e in
          let er : r ≡ 0 = sym one ∙ el in
          subst (λ (b : Bool). MatchResult rest (AllZip (IsSidedArc raw) (cond b (a ∷ kept) kept)) IsBoth) (sym (none_taken a points l r is_points hl hr el er))
          (go (apart_more a before (λ g at_left at_right. hl.free el g at_left)))
      by_free one false e go =
          let some : l ≢ 0 = eqb-false l 0 e in record {
            arc = a;
            face = l;
            left = hl.taken some;
            right = subst (λ (n : ℕ). TakesSide raw a false n) (sym one) (hr.taken (λ none. some (one ∙ none)));
            first = before;
            is = refl;
          }

      by : (both : Bool) → (l == r) ≡ both → (AreApartBefore (a + 1) → MatchResult rest (AllZip (IsSidedArc raw) kept) IsBoth)
          → MatchResult (cond both (ensured (l == 0) (SameSides a l) >>= λ _. rest) (rest >>= λ more. Ok (arc ∷ more)))
          (AllZip (IsSidedArc raw) (cond (is_taken (sides_taken raw) a) (a ∷ kept) kept)) IsBoth
      by true e go = by_free (eqb-true l r e) (l == 0) refl go
      by false e go =
          let apart : l ≢ r = eqb-false l r e in
          subst (λ (b : Bool). MatchResult (rest >>= λ more. Ok (arc ∷ more)) (AllZip (IsSidedArc raw) (cond b (a ∷ kept) kept)) IsBoth) (sym (one_taken a points l r is_points hl hr apart))
          (in_turn (AllZip (IsSidedArc raw) kept) IsBoth (AllZip (IsSidedArc raw) (a ∷ kept)) IsBoth rest (λ more. Ok (arc ∷ more))
          (go (apart_more a before (differ a points l r is_points hl hr apart))) (λ fault both. both) (λ more all. (one_sided a points l r is_points hl hr apart, all)))

-- ---- the base map

-- before the first ring nothing is taken
abbrev no_faces : List (List Point) → List ℕ
no_faces arcs = map (λ a. 0) arcs

no_face : (arcs : List (List Point)) (a : ℕ) → get_or (no_faces arcs) a 0 ≡ 0
no_face [] a = refl
no_face (points ∷ arcs) zero = refl
no_face (points ∷ arcs) (suc a) = no_face arcs a

nothing_at : (arcs : List (List Point)) (left : Bool) → AreFacesAt [] left (no_faces arcs)
nothing_at arcs left = record {
  taken = λ a some. absurd (omega (arith, no_face arcs a, some));
  known = λ a g at. absurd (omega (arith, at.1));
}

nothing_follows : (arcs : List (List Point)) → Follows arcs [] [] (nothing_taken arcs)
nothing_follows arcs = record {
  whole = λ k d inside. absurd (omega (arith, inside));
  sides = record {
    same = refl;
    left = nothing_at arcs true;
    right = nothing_at arcs false;
    many_left = length-map arcs (λ a. 0);
    many_right = length-map arcs (λ a. 0);
    once = λ i j d low inside. absurd (omega (arith, inside));
  };
}

-- a fault among the rings is the first of the topology
among_is_first : (raw : RawMap) (fault : MapFault) → IsFaultAmong raw.arcs (face_rings raw) fault → IsRingFault raw fault
among_is_first raw (SameSides a f) h = absurd h.wrong
among_is_first raw fault h = h

-- and so is an arc with one face at both sides where they have none
both_is_first : (raw : RawMap) (classes : List ℕ) (taken : Taken) (fault : MapFault) → Follows raw.arcs classes (face_rings raw) taken → IsBoth raw fault → IsRingFault raw fault
both_is_first raw classes taken fault f both = subst (IsRingFault raw) (sym both.is) (record {
  whole = f.whole;
  once = f.sides.once;
  left = both.left;
  right = both.right;
  first = both.first;
})

-- the sides of all arcs
all_sides : (raw : RawMap) (classes : List ℕ) (taken : Taken) → Follows raw.arcs classes (face_rings raw) taken → AreSides raw 0 raw.arcs taken.left taken.right
all_sides raw classes taken f = record {
  points = λ k. ap (λ (n : ℕ). get_or raw.arcs n []) (omega arith);
  at_left = λ k. (let next : k ≡ 0 + k = omega arith in subst (λ (n : ℕ). IsFaceAt raw n true (get_or taken.left k 0)) next (face_at raw true taken.left f.sides.left k));
  at_right = λ k. (let next : k ≡ 0 + k = omega arith in subst (λ (n : ℕ). IsFaceAt raw n false (get_or taken.right k 0)) next (face_at raw false taken.right f.sides.right k));
  many_left = f.sides.many_left;
  many_right = f.sides.many_right;
}

pub ring_sides : (raw : RawMap) (named : NamedRules) → IsTrue (is_raw_map raw) → MatchResult (based raw named) (HasRingSides raw named) (IsRingFault raw)
unfolding based
ring_sides raw named formed =
    let classes : List ℕ = map (class_of named) (faces raw) in
    in_turn (Follows raw.arcs classes (face_rings raw)) (IsFaultAmong raw.arcs (face_rings raw)) (HasRingSides raw named) (IsRingFault raw)
    (try_fold (polygon_taken raw.arcs named) (nothing_taken raw.arcs) raw.polygons)
    (λ taken. sided_from 0 raw.arcs taken.left taken.right >>= λ arcs. Ok (record { transform = raw.transform; rules = named.rules; classes = taken.classes; arcs = arcs }))
    (polygons_step raw.arcs named raw.polygons (raw_map_facts raw formed).rings [] [] (nothing_taken raw.arcs) (nothing_follows raw.arcs))
    (among_is_first raw)
    (λ taken f.
    in_turn (AllZip (IsSidedArc raw) (arcs_taken raw)) (IsBoth raw) (HasRingSides raw named) (IsRingFault raw)
    (sided_from 0 raw.arcs taken.left taken.right) (λ arcs. Ok (record { transform = raw.transform; rules = named.rules; classes = taken.classes; arcs = arcs }))
    (sided_step raw 0 raw.arcs taken.left taken.right (all_sides raw classes taken f) (λ b g low at_left at_right. omega (arith, low)))
    (λ fault. both_is_first raw classes taken fault f)
    (λ arcs sided. record {
      transform = refl;
      rules = refl;
      classes = f.sides.same;
      rings = each_whole raw f.whole;
      once = f.sides.once;
      numbers = arcs_taken raw;
      kept = are_taken raw;
      arcs = sided;
    }))

-- what is made has these sides, and the fault is the first
pub based_has_sides : (raw : RawMap) (named : NamedRules) (base : BaseMap) → IsTrue (is_raw_map raw) → based raw named ≡ Ok base → HasRingSides raw named base
based_has_sides raw named base formed e = subst (λ (r : Result BaseMap MapFault). MatchResult r (HasRingSides raw named) (IsRingFault raw)) e (ring_sides raw named formed)

pub based_fault_is_first : (raw : RawMap) (named : NamedRules) (fault : MapFault) → IsTrue (is_raw_map raw) → based raw named ≡ Err fault → IsRingFault raw fault
based_fault_is_first raw named fault formed e = subst (λ (r : Result BaseMap MapFault). MatchResult r (HasRingSides raw named) (IsRingFault raw)) e (ring_sides raw named formed)

-- a call that answers so
pub sides_told : (raw : RawMap) (named : NamedRules) (result : Result BaseMap (Or MapFault)) → IsTrue (is_raw_map raw) → GivesWhole result (based raw named) → IfOk result (HasRingSides raw named)
sides_told raw named (Ok base) formed exact = based_has_sides raw named base formed exact
sides_told raw named (Err e) formed exact = tt

pub fault_shown : (raw : RawMap) (named : NamedRules) (result : Result BaseMap (Or MapFault)) → IsTrue (is_raw_map raw) → GivesWhole result (based raw named)
    → (fault : MapFault) → result ≡ Err (Fault fault) → IsRingFault raw fault
fault_shown raw named result formed exact fault e =
    based_fault_is_first raw named fault formed (subst (λ (r : Result BaseMap (Or MapFault)). GivesWhole r (based raw named)) e exact)
