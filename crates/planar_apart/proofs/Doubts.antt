-- Where segments that are not doubtful are apart, those that are not are held to the doubtful ones alone.
use Rattle.std.proofs.Common.{if◌then◌else◌, ◌≡◌, ◌⊎◌, inl, inr, ℕ, zero, suc, ◌+◌, ◌-◌, ◌<◌, ◌≤◌, Bool, true, false, not, cond, List, [], ◌∷◌, ◌++◌, length, get_or, map, All, AllPairs, Contains, Option, Some, None, option_map, refl, sym, ap, ◌∙◌, subst, arith}
use Rattle.std.specs.List.{filter, list_all, range_with_len}
use Rattle.std.proofs.lemmas.Bool.{cases_lt}
use Rattle.std.proofs.lemmas.List.{get_or-map, get_or_default, length-map, map-append}
use Rattle.std.proofs.lemmas.List.Elements.{All-contains, All-filter, All-map, filter-append}
use Rattle.std.proofs.lemmas.List.Filters.{length-filter_both}
use Rattle.std.proofs.lemmas.List.FromFn.{get_or-range_with_len, length-range_with_len}
use Rattle.std.proofs.lemmas.List.Sums.{AllPass-from_list_all, list_all-from_AllPass}
use Rattle.lemmas.proofs.Members.{AllPairs-head, AllPairs-tail, Contains-filter, Contains-from_filter, Contains-map, Contains-from_map}
use Rattle.tgap_model.specs.declared.geometry.Fraction.{Fraction}
use Rattle.tgap_model.specs.declared.segment.LabelledSegment.{LabelledSegment}
use Rattle.tgap_model.specs.Partition.{AreApart, is_proper, meeting_point, shared_ends}
use Rattle.tgap_model.proofs.Proper.{proper_parts}
use Rattle.grid_geo.proofs.CommonPoint.{common_point_found}
use Rattle.grid_index.proofs.Ranges.{range_below}
use Rattle.planar_apart.specs.declared.meeting.Meeting.{Meeting}
use Rattle.planar_apart.specs.declared.row.NumberedSegment.{NumberedSegment}
use Rattle.planar_apart.specs.Meetings.{IsNoLater}
use Rattle.planar_apart.specs.Rows.{past_last, past_row, row_at, numbered, meeting_of}
use Rattle.planar_apart.specs.Doubts.{is_doubtful, others, AreDoubts, Suffice}
use Rattle.planar_apart.proofs.Numbers.{in_order}

-- ---- of numbers in a range that pass a test

in_range : (a n j : ℕ) → a ≤ j → j < a + n → Contains (range_with_len a n) j
in_range a n j from to =
    let here : a + (j - a) ≡ j = omega (arith, from) in
    (j - a, omega (arith, from, to, length-range_with_len a n), get_or-range_with_len a n (j - a) j (omega (arith, from, to)) ∙ here)

range_more : (a n j : ℕ) → a + n ≡ j → range_with_len a (n + 1) ≡ range_with_len a n ++ j ∷ []
range_more a n j e = subst (λ (m : ℕ). range_with_len a m ≡ range_with_len a n ++ j ∷ []) (next n) (by a n j e)
  where
    next : (m : ℕ) → suc m ≡ m + 1
    next m = omega arith

    by : (a n j : ℕ) → a + n ≡ j → range_with_len a (suc n) ≡ range_with_len a n ++ j ∷ []
    by a zero j e = let same : a ≡ j = omega (arith, e) in ap (λ (m : ℕ). m ∷ []) same
    by a (suc n) j e = ap (λ (ns : List ℕ). a ∷ ns) (by (a + 1) n j (omega (arith, e)))

module _ {A : Type 0} (R : A → A → Type 0) (f : ℕ → A) (p : ℕ → Bool) where
  abbrev passing : List ℕ → List A
  passing ns = map f (filter p ns)

  -- those after the first, and the first with them
  first_with : (a j : ℕ) (ns : List ℕ) → AllPairs R (f a ∷ passing ns) → Contains ns j → p j ≡ true → R (f a) (f j)
  first_with a j ns h c there = All-contains (R (f a)) (passing ns) (f j) (AllPairs-head R (f a) (passing ns) h) (Contains-map f (filter p ns) j (Contains-filter p ns j c there))

  pub pairs_in_range : (a n i j : ℕ) → AllPairs R (passing (range_with_len a n)) → a ≤ i → i < j → j < a + n → p i ≡ true → p j ≡ true → R (f i) (f j)
  pairs_in_range a zero i j h from less to here there = absurd (omega (arith, from, less, to))
  pairs_in_range a (suc n) i j h from less to here there =
      by (p a) refl h (cases_lt a i) (λ k after. pairs_in_range (a + 1) n i j k after less (omega (arith, to)) here there)
    where
      later : List ℕ
      later = range_with_len (a + 1) n

      by : (b : Bool) → p a ≡ b → AllPairs R (map f (if b then a ∷ filter p later else filter p later)) → (a < i) ⊎ (i ≤ a)
          → (AllPairs R (passing later) → a + 1 ≤ i → R (f i) (f j)) → R (f i) (f j)
      by true e k (inl more) behind = behind (AllPairs-tail R (f a) (passing later) k) (omega (arith, more))
      by true e k (inr le) behind =
          let same : a ≡ i = omega (arith, le, from) in
          subst (λ (m : ℕ). R (f m) (f j)) same (first_with a j later k (in_range (a + 1) n j (omega (arith, from, less)) (omega (arith, to))) there)
      by false e k (inl more) behind = behind k (omega (arith, more))
      by false e k (inr le) behind = let same : a ≡ i = omega (arith, le, from) in absurd cc

-- ---- of segments that are not doubtful

module _ (segments : List LabelledSegment) (doubts : List Bool) (proper : list_all is_proper segments ≡ true) where
  abbrev kept : List ℕ
  kept = filter (λ i. not (is_doubtful doubts i)) (range_with_len 0 (length segments))

  proper_at : (i : ℕ) → i < length segments → is_proper (get_or segments i past_last) ≡ true
  proper_at i lt = AllPass-from_list_all is_proper segments proper i past_last lt

  pub others_proper : list_all is_proper (others segments doubts) ≡ true
  others_proper = list_all-from_AllPass is_proper (others segments doubts) (All-map (λ s. is_proper s ≡ true) (λ i. get_or segments i past_last) kept
      (All-filter (λ i. not (is_doubtful doubts i)) (λ i. is_proper (get_or segments i past_last) ≡ true) (range_with_len 0 (length segments))
      (λ k d short. proper_at (get_or (range_with_len 0 (length segments)) k d) (range_below 0 (length segments) (length segments) (omega arith) k d short))))

  pub others_fewer : length (others segments doubts) ≤ length segments
  others_fewer = omega (
    arith,
    length-map kept (λ i. get_or segments i past_last),
    length-range_with_len 0 (length segments),
    length-filter_both (λ i. not (is_doubtful doubts i)) (λ i. not (not (is_doubtful doubts i))) (λ _. refl) (range_with_len 0 (length segments)),
  )

  -- where they are apart, no two of them meet
  pub others_apart : AllPairs AreApart (others segments doubts) → AreDoubts segments doubts
  others_apart apart i j less short first second =
      none (meeting_point (get_or segments i past_last) (get_or segments j past_last)) refl
    where
      sure : (b : Bool) → b ≡ false → not b ≡ true
      sure b e = ap not e

      here : AreApart (get_or segments i past_last) (get_or segments j past_last)
      here = pairs_in_range AreApart (λ k. get_or segments k past_last) (λ k. not (is_doubtful doubts k)) 0 (length segments) i j apart (omega arith) less (omega (arith, short))
          (sure (is_doubtful doubts i) first) (sure (is_doubtful doubts j) second)

      none : (o : Option Fraction) → meeting_point (get_or segments i past_last) (get_or segments j past_last) ≡ o → o ≡ None
      none None e = refl
      none (Some p) e = absurd (here p (common_point_found (get_or segments i past_last).segment (get_or segments j past_last).segment
          (proper_parts (get_or segments i past_last) (proper_at i (omega (arith, less, short)))).apart (shared_ends (get_or segments i past_last) (get_or segments j past_last)) p e))

abbrev at_number : List LabelledSegment → ℕ → LabelledSegment
at_number segments k = get_or segments k past_last

abbrev is_certain : List Bool → ℕ → Bool
is_certain doubts k = not (is_doubtful doubts k)

kept_one : {A B : Type 0} (f : A → B) (x : A) (b : Bool) → map f (cond (not b) (x ∷ []) []) ≡ cond b [] (f x ∷ [])
kept_one f x true = refl
kept_one f x false = refl

-- the others as far as a number, and the segment of this number if it is one
pub others_more : (segments : List LabelledSegment) (doubts : List Bool) (old new : List LabelledSegment) (i : ℕ)
    → old ≡ map (λ k. get_or segments k past_last) (filter (λ k. not (is_doubtful doubts k)) (range_with_len 0 i))
    → new ≡ old ++ cond (is_doubtful doubts i) [] (get_or segments i past_last ∷ [])
    → new ≡ map (λ k. get_or segments k past_last) (filter (λ k. not (is_doubtful doubts k)) (range_with_len 0 (i + 1)))
others_more segments doubts old new i so_far more =
    let before = range_with_len 0 i in
    let kept = filter (is_certain doubts) before in
    more ∙ ap (λ (ss : List LabelledSegment). ss ++ cond (is_doubtful doubts i) [] (at_number segments i ∷ [])) so_far
    ∙ ap (λ (ss : List LabelledSegment). map (at_number segments) kept ++ ss) (sym (kept_one (at_number segments) i (is_doubtful doubts i)))
    ∙ sym (ap (λ (ns : List ℕ). map (at_number segments) (filter (is_certain doubts) ns)) (range_more 0 i i (omega arith))
    ∙ ap (map (at_number segments)) (filter-append (is_certain doubts) before (i ∷ []))
    ∙ map-append (at_number segments) kept (filter (is_certain doubts) (i ∷ [])))

-- where nothing is said, all are doubtful
pub all_doubtful : (segments : List LabelledSegment) → AreDoubts segments []
all_doubtful segments i j less short first second = absurd cc

-- ---- of a row and its doubtful members

module _ (segments : List LabelledSegment) (doubts : List Bool) (order : List ℕ) (row few : List NumberedSegment)
    (inside : All (λ i. i < length segments) order) (row_is : row ≡ map (numbered segments) order) (few_is : few ≡ map (numbered segments) (filter (is_doubtful doubts) order))
    (sure : AreDoubts segments doubts) where
  standing : (a k : ℕ) → a < length order → row_at row a ≡ numbered segments (get_or order a k)
  standing a k lt = ap (λ (r : List NumberedSegment). row_at r a) row_is ∙ get_or-map (numbered segments) order a k past_row lt

  long : length row ≡ length order
  long = ap length row_is ∙ length-map order (numbered segments)

  -- a doubtful one stands in both
  among : (n : ℕ) → Contains order n → is_doubtful doubts n ≡ true → (k : ℕ) × (k < length few) × (row_at few k ≡ numbered segments n)
  among n c e = by (subst (λ (r : List NumberedSegment). Contains r (numbered segments n)) (sym few_is) (Contains-map (numbered segments) (filter (is_doubtful doubts) order) n (Contains-filter (is_doubtful doubts) order n c e)))
    where
      by : Contains few (numbered segments n) → (k : ℕ) × (k < length few) × (row_at few k ≡ numbered segments n)
      by (k, lt, at) = (k, lt, get_or_default few k past_row (numbered segments n) lt ∙ at)

  beyond : (k : ℕ) → k < length few → (a : ℕ) × (a < length row) × (row_at row a ≡ row_at few k)
  beyond k lt = by (Contains-from_map (numbered segments) (filter (is_doubtful doubts) order) (row_at few k)
      (subst (λ (r : List NumberedSegment). Contains r (row_at few k)) few_is (k, lt, get_or_default few k (row_at few k) past_row lt)))
    where
      of_order : (n : ℕ) → numbered segments n ≡ row_at few k → Contains order n → (a : ℕ) × (a < length row) × (row_at row a ≡ row_at few k)
      of_order n same (a, a_in, at) = (a, omega (arith, a_in, long), standing a n a_in ∙ ap (numbered segments) at ∙ same)

      by : (n : ℕ) × Contains (filter (is_doubtful doubts) order) n × (numbered segments n ≡ row_at few k) → (a : ℕ) × (a < length row) × (row_at row a ≡ row_at few k)
      by (n, c, same) = of_order n same (Contains-from_filter (is_doubtful doubts) order n c).0

  module _ (i : ℕ) (within : i < length segments) (certain : is_doubtful doubts i ≡ false) where
    -- one that is not doubtful has no meeting with another such
    none_with : (n : ℕ) → i < n → n < length segments → is_doubtful doubts n ≡ false → meeting_of (numbered segments i) (numbered segments n) ≡ None
    none_with n less short e = in_order segments i n less ∙ ap (option_map (λ (p : Fraction). record { i = i; j = n; at = p })) (sure i n less short certain e)

    pub suffice : Suffice few row (numbered segments i)
    suffice found h = record { least = least; one = one }
      where
        least : (k : ℕ) → k < length row → i < (row_at row k).number → IsNoLater found (meeting_of (numbered segments i) (row_at row k))
        least k k_in above = by (is_doubtful doubts n) refl
          where
            n : ℕ
            n = get_or order k 0

            in_place : k < length order
            in_place = omega (arith, k_in, long)

            is : row_at row k ≡ numbered segments n
            is = standing k 0 in_place

            less : i < n
            less = subst (λ (s : NumberedSegment). i < s.number) is above

            by : (b : Bool) → is_doubtful doubts n ≡ b → IsNoLater found (meeting_of (numbered segments i) (row_at row k))
            by true e =
                let c = among n (k, in_place, get_or_default order k n 0 in_place) e in
                subst (λ (s : NumberedSegment). IsNoLater found (meeting_of (numbered segments i) s)) (c.2 ∙ sym is)
                (h.least c.0 c.1 (subst (λ (s : NumberedSegment). i < s.number) (sym c.2) less))
            by false e = subst (IsNoLater found) (sym (ap (meeting_of (numbered segments i)) is ∙ none_with n less (inside k 0 in_place) e)) tt

        one : (m : Meeting) → found ≡ Some m → (k : ℕ) × (k < length row) × (i < (row_at row k).number) × (meeting_of (numbered segments i) (row_at row k) ≡ Some m)
        one m some =
            let o = h.one m some in
            let a = beyond o.0 o.1 in
            (a.0, a.1, subst (λ (s : NumberedSegment). i < s.number) (sym a.2) o.2, ap (meeting_of (numbered segments i)) a.2 ∙ o.3)
