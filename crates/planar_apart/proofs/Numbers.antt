-- A row with each segment once, in any order: the least meeting of its pairs is the first of the segments.
use Rattle.std.proofs.Common.{if◌then◌else◌, ◌≡◌, ◌⊎◌, inl, inr, ℕ, ◌+◌, ◌<◌, ◌≤◌, Bool, true, List, length, get_or, map, Option, Some, None, IsPermutation, All, option_map, refl, sym, ap, ap₂, ◌∙◌, subst, subst₂, arith}
use Rattle.std.specs.List.{list_all, range_with_len}
use Rattle.std.proofs.lemmas.Bool.{cases_lt, lt-ltb}
use Rattle.std.proofs.lemmas.List.{get_or-map, length-map}
use Rattle.std.proofs.lemmas.List.FromFn.{get_or-range_with_len, length-range_with_len}
use Rattle.std.proofs.lemmas.List.Sorted.{Contains-permutation}
use Rattle.std.proofs.lemmas.List.Sums.{AllPass-from_list_all}
use Rattle.tgap_model.specs.declared.geometry.Fraction.{Fraction}
use Rattle.tgap_model.specs.declared.segment.LabelledSegment.{LabelledSegment}
use Rattle.tgap_model.specs.declared.fault.MapFault.{MapFault}
use Rattle.tgap_model.specs.declared.fault.MapFault.TheVariants.{Meets}
use Rattle.tgap_model.specs.Partition.{is_proper, meeting_point, meeting_from}
use Rattle.grid_geo.specs.Evidence.{IsLesserPair}
use Rattle.grid_index.proofs.Ordering.{order_below, order_length}
use Rattle.planar_apart.specs.declared.meeting.Meeting.{Meeting}
use Rattle.planar_apart.specs.declared.row.NumberedSegment.{NumberedSegment}
use Rattle.planar_apart.specs.Meetings.{meets, IsNoLater}
use Rattle.planar_apart.specs.Rows.{past_last, past_row, row_at, numbered, ordered_meeting, meeting_of, IsLeastAbove, IsLeastByNumber}
use Rattle.planar_apart.proofs.Pairs.{none_pairs, Found, found_pair}
use Rattle.planar_apart.proofs.Earlier.{none_if_no_later}

-- the meeting of two segments, by their numbers
abbrev pub pair : List LabelledSegment → ℕ → ℕ → Option Meeting
pair segments k l = ordered_meeting (numbered segments k) (numbered segments l)

pub in_order : (segments : List LabelledSegment) (k l : ℕ) → k < l → meeting_of (numbered segments k) (numbered segments l) ≡ pair segments k l
in_order segments k l lt = ap (λ (b : Bool). if b then pair segments k l else pair segments l k) (lt-ltb k l lt)

-- the numbers of a meeting are those of its segments
numbers_of : (a b : NumberedSegment) (m : Meeting) → ordered_meeting a b ≡ Some m → (m.i ≡ a.number) × (m.j ≡ b.number)
numbers_of a b m e = by (meeting_point a.segment b.segment) e
  where
    by : (o : Option Fraction) → option_map (λ (p : Fraction). record { i = a.number; j = b.number; at = p }) o ≡ Some m → (m.i ≡ a.number) × (m.j ≡ b.number)
    by None f = absurd cc
    by (Some p) f = (cc, cc)

-- the segments of the row are proper where all are
pub row_proper : (segments : List LabelledSegment) (order : List ℕ) (row : List NumberedSegment) → All (λ i. i < length segments) order → row ≡ map (numbered segments) order
    → list_all is_proper segments ≡ true → (k : ℕ) (d : NumberedSegment) → k < length row → is_proper (get_or row k d).segment ≡ true
row_proper segments order row inside row_is proper k d lt =
    let within : k < length order = omega (arith, lt, ap length row_is, length-map order (numbered segments)) in
    let i = get_or order k 0 in
    subst (λ (s : NumberedSegment). is_proper s.segment ≡ true) (sym (ap (λ (r : List NumberedSegment). get_or r k d) row_is ∙ get_or-map (numbered segments) order k 0 d within))
    (AllPass-from_list_all is_proper segments proper i past_last (inside k 0 within))

-- of two segments in order, the numbers of the meeting are theirs
meeting_numbers : (a b : NumberedSegment) (m : Meeting) → a.number < b.number → meeting_of a b ≡ Some m → (m.i ≡ a.number) × (m.j ≡ b.number)
meeting_numbers a b m lt e = numbers_of a b m (sym (ap (λ (t : Bool). if t then ordered_meeting a b else ordered_meeting b a) (lt-ltb a.number b.number lt)) ∙ e)

-- so it is no later than those of later segments
pub no_later_than_next : (a b x y : NumberedSegment) (m : Meeting) → a.number < b.number → meeting_of a b ≡ Some m → a.number < x.number → x.number < y.number
    → IsNoLater (Some m) (meeting_of x y)
no_later_than_next a b x y m ab e ax xy = by (meeting_of x y) refl
  where
    by : (o : Option Meeting) → meeting_of x y ≡ o → IsNoLater (Some m) o
    by None f = tt
    by (Some n) f =
        let mine = meeting_numbers a b m ab e in
        let other = meeting_numbers x y n xy f in
        inl (omega (arith, mine.0, other.0, ax))

-- the least meeting of the first segment that has one is the least of all
pub found_by_number : (segments : List LabelledSegment) (row : List NumberedSegment) (i : ℕ) (m : Meeting) → i < length segments
    → ((j : ℕ) → j < i → (k : ℕ) → k < length row → j < (row_at row k).number → meeting_of (numbered segments j) (row_at row k) ≡ None)
    → IsLeastAbove row (numbered segments i) (Some m) → IsLeastByNumber segments row (Some m)
found_by_number segments row i m within none above = record {
  least = λ j j_in k k_in lt. elim (cases_lt j i) [
    | inl less ↦ subst (IsNoLater (Some m)) (sym (none j less k k_in lt)) tt
    | inr le ↦ elim (cases_lt i j) [
      | inl less ↦
          let o = above.one m refl in
          no_later_than_next (numbered segments i) (row_at row o.0) (numbered segments j) (row_at row k) m o.2 o.3 less lt
      | inr ge ↦
          let same : i ≡ j = omega arith in
          subst (λ (x : ℕ). x < (row_at row k).number → IsNoLater (Some m) (meeting_of (numbered segments x) (row_at row k))) same (above.least k k_in) lt
    ]
  ];
  one = λ n some. let o = above.one n some in (i, within, o.0, o.1, o.2, o.3);
}

-- and where it has none, the search goes on
pub none_by_number : (segments : List LabelledSegment) (row : List NumberedSegment) (i : ℕ) (found : Option Meeting)
    → ((j : ℕ) → j < i → (k : ℕ) → k < length row → j < (row_at row k).number → meeting_of (numbered segments j) (row_at row k) ≡ None)
    → IsLeastAbove row (numbered segments i) found → ((m : Meeting) → ¬ (found ≡ Some m))
    → (j : ℕ) → j < i + 1 → (k : ℕ) → k < length row → j < (row_at row k).number → meeting_of (numbered segments j) (row_at row k) ≡ None
none_by_number segments row i found none above not j lt k k_in greater = by (cases_lt j i)
  where
    no_later : (o : Option Meeting) → found ≡ o → IsNoLater found (meeting_of (numbered segments i) (row_at row k)) → meeting_of (numbered segments i) (row_at row k) ≡ None
    no_later None e h = none_if_no_later (meeting_of (numbered segments i) (row_at row k)) (subst (λ (o : Option Meeting). IsNoLater o (meeting_of (numbered segments i) (row_at row k))) e h)
    no_later (Some m) e h = absurd (not m e)

    by : (j < i) ⊎ (i ≤ j) → meeting_of (numbered segments j) (row_at row k) ≡ None
    by (inl less) = none j less k k_in greater
    by (inr le) =
        let same : j ≡ i = omega arith in
        subst (λ (x : ℕ). meeting_of (numbered segments x) (row_at row k) ≡ None) (sym same)
        (no_later found refl (above.least k k_in (subst (λ (x : ℕ). x < (row_at row k).number) same greater)))

-- It is the meeting of two segments, and none is earlier; it is none only where there is none.
pub record IsLeastPair (segments : List LabelledSegment) (found : Option Meeting) : Type 0 where
  pub bound : (k l : ℕ) → k < l → l < length segments → IsNoLater found (pair segments k l)
  pub one : (m : Meeting) → found ≡ Some m → (k : ℕ) × (l : ℕ) × (k < l) × (l < length segments) × (pair segments k l ≡ Some m)

module _ (segments : List LabelledSegment) (order : List ℕ) (row : List NumberedSegment)
    (moved : IsPermutation (range_with_len 0 (length segments)) order) (row_is : row ≡ map (numbered segments) order) where
  count : length order ≡ length segments
  count = order_length (length segments) order moved

  long : length row ≡ length segments
  long = ap length row_is ∙ length-map order (numbered segments) ∙ count

  -- where a number stands, and what stands at a place
  place_of : (k : ℕ) → k < length segments → (a : ℕ) × (a < length order) × (get_or order a k ≡ k)
  place_of k lt =
      let here : 0 + k ≡ k = omega arith in
      Contains-permutation (range_with_len 0 (length segments)) order k moved
      (k, omega (arith, lt, length-range_with_len 0 (length segments)), get_or-range_with_len 0 (length segments) k k lt ∙ here)

  standing : (a k : ℕ) → a < length order → row_at row a ≡ numbered segments (get_or order a k)
  standing a k lt = ap (λ (r : List NumberedSegment). row_at r a) row_is ∙ get_or-map (numbered segments) order a k past_row lt

  -- the least that is found by number is the least of all
  pub least_by_number : (found : Option Meeting) → IsLeastByNumber segments row found → IsLeastPair segments found
  least_by_number found h = record { bound = bound; one = one }
    where
      bound : (k l : ℕ) → k < l → l < length segments → IsNoLater found (pair segments k l)
      bound k l lt short = by (place_of l short)
        where
          by : (b : ℕ) × (b < length order) × (get_or order b l ≡ l) → IsNoLater found (pair segments k l)
          by (b, b_in, at_b) =
              let second = standing b l b_in ∙ ap (numbered segments) at_b in
              let above = subst (λ (s : NumberedSegment). k < s.number) (sym second) lt in
              subst (IsNoLater found) (ap (meeting_of (numbered segments k)) second ∙ in_order segments k l lt)
              (h.least k (omega arith) b (omega (arith, b_in, long, count)) above)

      one : (m : Meeting) → found ≡ Some m → (k : ℕ) × (l : ℕ) × (k < l) × (l < length segments) × (pair segments k l ≡ Some m)
      one m some = by (h.one m some)
        where
          by : (i : ℕ) × (i < length segments) × (k : ℕ) × (k < length row) × (i < (row_at row k).number) × (meeting_of (numbered segments i) (row_at row k) ≡ Some m)
              → (k : ℕ) × (l : ℕ) × (k < l) × (l < length segments) × (pair segments k l ≡ Some m)
          by (i, i_in, k, k_in, above, met) =
              let within : k < length order = omega (arith, k_in, long, count) in
              let l = get_or order k 0 in
              let second = standing k 0 within in
              let lt = subst (λ (s : NumberedSegment). i < s.number) second above in
              (i, l, lt, order_below (length segments) order moved k 0 within, sym (in_order segments i l lt) ∙ ap (meeting_of (numbered segments i)) (sym second) ∙ met)

module _ (segments : List LabelledSegment) (found : Option Meeting) (h : IsLeastPair segments found) where
  -- so it is the first meeting
  pub least_is_first : option_map meets found ≡ meeting_from 0 segments
  least_is_first = by (meeting_from 0 segments) refl found refl
    where
      none_of : (m : Meeting) → found ≡ Some m → ((k l : ℕ) → k < l → l < length segments → (m.i ≡ k) × (m.j ≡ l) → meeting_point (get_or segments k past_last) (get_or segments l past_last) ≡ None) → ⊥
      none_of m some none =
          let o = h.one m some in
          let is = o.4 in
          let e = none o.0 o.1 o.2 o.3 (numbers_of (numbered segments o.0) (numbered segments o.1) m is) in
          let nothing : pair segments o.0 o.1 ≡ None = ap (option_map (λ (p : Fraction). record { i = o.0; j = o.1; at = p })) e in
          absurd (cc (nothing, is))

      same_pair : (m : Meeting) (f : MapFault) → found ≡ Some m → (g : Found 0 segments f) → IsNoLater (Some m) (pair segments g.first g.second) → Some (meets m) ≡ Some f
      same_pair m f some g no_later =
          let met : pair segments g.first g.second ≡ Some (record { i = g.first; j = g.second; at = g.at }) =
          ap (option_map (λ (p : Fraction). record { i = g.first; j = g.second; at = p })) (g.meets past_last) in
          let o = h.one m some in
          let is = o.4 in
          let numbers = numbers_of (numbered segments o.0) (numbered segments o.1) m is in
          let not_lesser = λ (lesser : IsLesserPair o.0 o.1 g.first g.second). none_of m some (λ k l lt short n.
          let first : o.0 ≡ k = sym numbers.0 ∙ n.0 in
          let second : o.1 ≡ l = sym numbers.1 ∙ n.1 in
          subst₂ (λ (i j : ℕ). meeting_point (get_or segments i past_last) (get_or segments j past_last) ≡ None) first second (g.least o.0 o.1 past_last o.2 o.3 lesser)) in
          by_order (subst (IsNoLater (Some m)) met no_later) numbers.0 numbers.1 not_lesser is met
        where
          by_order : (m.i < g.first) ⊎ ((m.i ≡ g.first) × (m.j ≤ g.second)) → {k l : ℕ} → m.i ≡ k → m.j ≡ l → (IsLesserPair k l g.first g.second → ⊥) → pair segments k l ≡ Some m
              → pair segments g.first g.second ≡ Some (record { i = g.first; j = g.second; at = g.at }) → Some (meets m) ≡ Some f
          by_order (inl less) {k} {l} ik jl none is met = absurd (none (inl (omega (arith, less, ik))))
          by_order (inr (same, le)) {k} {l} ik jl none is met = elim (cases_lt l g.second) [
            | inl less ↦ absurd (none (inr (sym ik ∙ same, less)))
            | inr ge ↦
                let first : k ≡ g.first = sym ik ∙ same in
                let second : l ≡ g.second = omega (arith, ge, jl, le) in
                let this : m ≡ record { i = g.first; j = g.second; at = g.at } = cc (sym is ∙ ap₂ (pair segments) first second ∙ met) in
                let zero_first : g.first ≡ 0 + g.first = omega arith in
                let zero_second : g.second ≡ 0 + g.second = omega arith in
                ap Some (ap meets this ∙ ap (λ (i : ℕ). Meets i g.second g.at) zero_first ∙ ap (λ (j : ℕ). Meets (0 + g.first) j g.at) zero_second ∙ sym g.fault)
          ]

      by : (o : Option MapFault) → meeting_from 0 segments ≡ o → (r : Option Meeting) → found ≡ r → option_map meets found ≡ o
      by None e None none = ap (option_map meets) none
      by None e (Some m) some = absurd (none_of m some (λ k l lt short n. none_pairs 0 segments e k l past_last lt short))
      by (Some f) e None none =
          let g = found_pair 0 segments f e in
          let met : pair segments g.first g.second ≡ Some (record { i = g.first; j = g.second; at = g.at }) =
          ap (option_map (λ (p : Fraction). record { i = g.first; j = g.second; at = p })) (g.meets past_last) in
          absurd (subst₂ IsNoLater none met (h.bound g.first g.second g.order g.inside))
      by (Some f) e (Some m) some =
          let g = found_pair 0 segments f e in
          ap (option_map meets) some ∙ same_pair m f some g (subst (λ (r : Option Meeting). IsNoLater r (pair segments g.first g.second)) some (h.bound g.first g.second g.order g.inside))
