-- The row of next sides of a side comes back to it, and no side stands in it twice.
use Rattle.std.proofs.Common.{◌≡◌, ◌≢◌, ◌⊎◌, inl, inr, ℕ, zero, suc, ◌+◌, ◌-◌, ◌*◌, ◌<◌, ◌≤◌, nat_lt, Bool, true, false, eqb, if◌then◌else◌, List, [], ◌∷◌, length, map, get_or, All, AllPairs, Contains, refl, sym, ap, ◌∙◌, subst, true≢false, eqb-true, arith}
use Rattle.std.specs.List.{range_with_len}
use Rattle.std.proofs.lemmas.Bool.{cases_lt}
use Rattle.std.proofs.lemmas.Bool.Decides.{nat_tests}
use Rattle.std.proofs.lemmas.List.Folds.{Any-from_list_any}
use Rattle.std.proofs.lemmas.List.FromFn.{length-map-range_with_len, get_or-map-range_with_len}
use Rattle.std.proofs.lemmas.Map.Keys.{IsDistinct-from_apart}
use Rattle.std.proofs.lemmas.Map.Steps.{length-le_from_distinct_below}
use Rattle.ring_walk.specs.declared.side.Side.{Side}
use Rattle.ring_walk.specs.Sides.{side_number, same_side}
use Rattle.ring_walk.specs.Rings.{row_until}
use Rattle.ring_walk.specs.Spans.{IsSide}
use Rattle.ring_walk.proofs.SideNumbers.{same_side-itself, same_side-true, side_number-inj, number_within}
use Rattle.ring_walk.specs.Orbits.{place_after, IsRound}

-- ---- steps

-- the side that is reached after so many next sides
abbrev pub after : (Side → Side) → ℕ → Side → Side
after next zero s = s
after next (suc k) s = after next k (next s)

pub after-next : (next : Side → Side) (k : ℕ) (s : Side) → after next k (next s) ≡ next (after next k s)
after-next next zero s = refl
after-next next (suc k) s = after-next next k (next s)

-- the row has the sides that are reached from t on
abbrev pub Follows : (Side → Side) → Side → List Side → Type 0
Follows next t row = (k : ℕ) (d : Side) → k < length row → get_or row k d ≡ after next k t

-- the row ends where the next side is the first one, and it does not come there before
pub record Returns (next : Side → Side) (first t : Side) (row : List Side) : Type 0 where
  pub some : 0 < length row
  pub back : after next (length row) t ≡ first
  pub fresh : (k : ℕ) → 1 ≤ k → k < length row → after next k t ≢ first

-- or it goes on for m sides and does not come there
pub record GoesOn (next : Side → Side) (first t : Side) (m : ℕ) (row : List Side) : Type 0 where
  pub long : length row ≡ m
  pub fresh : (k : ℕ) → 1 ≤ k → k ≤ m → after next k t ≢ first

module _ (next : Side → Side) (first : Side) where
  abbrev rest_of : Bool → List Side → List Side
  rest_of b rest = if b then [] else rest

  follows_more : (t : Side) (b : Bool) (rest : List Side) → Follows next (next t) rest → Follows next t (t ∷ rest_of b rest)
  follows_more t b rest h zero d l = refl
  follows_more t true rest h (suc k) d l = absurd (omega (arith, l))
  follows_more t false rest h (suc k) d l = h k d (omega (arith, l))

  pub row_follows : (m : ℕ) (t : Side) → Follows next t (row_until next first m t)
  row_follows zero t = λ k d l. absurd (omega (arith, l))
  row_follows (suc m) t = follows_more t (same_side (next t) first) (row_until next first m (next t)) (row_follows m (next t))

  pub row_short : (m : ℕ) (t : Side) → length (row_until next first m t) ≤ m
  row_short zero t = omega arith
  row_short (suc m) t = by (same_side (next t) first) (row_short m (next t))
    where
      by : (b : Bool) → length (row_until next first m (next t)) ≤ m → length (t ∷ rest_of b (row_until next first m (next t))) ≤ suc m
      by true l = omega arith
      by false l = omega (arith, l)

  fresh_more : (t : Side) (n : ℕ) → next t ≢ first → ((k : ℕ) → 1 ≤ k → k < n → after next k (next t) ≢ first) → (k : ℕ) → 1 ≤ k → k < suc n → after next k t ≢ first
  fresh_more t n ne h zero l m = absurd (omega (arith, l))
  fresh_more t n ne h (suc zero) l m = ne
  fresh_more t n ne h (suc (suc k)) l m = h (suc k) (omega arith) (omega (arith, m))

  ends_more : (t : Side) (m : ℕ) (b : Bool) (rest : List Side) → same_side (next t) first ≡ b → Returns next first (next t) rest ⊎ GoesOn next first (next t) m rest
      → Returns next first t (t ∷ rest_of b rest) ⊎ GoesOn next first t (suc m) (t ∷ rest_of b rest)
  ends_more t m true rest e h = inl (record {
    some = omega arith;
    back = same_side-true (next t) first e;
    fresh = λ k l less. absurd (omega (arith, l, less));
  })
  ends_more t m false rest e (inl r) = inl (record {
    some = omega arith;
    back = r.back;
    fresh = fresh_more t (length rest) (λ f. true≢false (sym (ap (λ (u : Side). same_side u first) f ∙ same_side-itself first) ∙ e)) r.fresh;
  })
  ends_more t m false rest e (inr g) = inr (record {
    long = ap suc g.long;
    fresh = λ k l le. fresh_more t (suc m) (λ f. true≢false (sym (ap (λ (u : Side). same_side u first) f ∙ same_side-itself first) ∙ e))
        (λ j l less. g.fresh j l (omega (arith, less))) k l (omega (arith, le));
  })

  pub row_ends : (m : ℕ) (t : Side) → Returns next first t (row_until next first m t) ⊎ GoesOn next first t m (row_until next first m t)
  row_ends zero t = inr (record { long = refl; fresh = λ k l le. absurd (omega (arith, l, le)) })
  row_ends (suc m) t = ends_more t m (same_side (next t) first) (row_until next first m (next t)) refl (row_ends m (next t))

-- ---- rows that come back

-- a row from s on that comes back to s, in which each side stands once
pub record IsCycle (n : ℕ) (next : Side → Side) (s : Side) (row : List Side) : Type 0 where
  pub some : 0 < length row
  pub follows : Follows next s row
  pub back : after next (length row) s ≡ s
  pub within : All (IsSide n) row
  pub short : length row ≤ 2 * n
  pub differ : AllPairs (λ t u. t ≢ u) row

module _ (n : ℕ) (next : Side → Side) (within : (s : Side) → IsSide n s → IsSide n (next s))
    (one : (s t : Side) → IsSide n s → IsSide n t → next s ≡ next t → s ≡ t) where
  pub after_within : (k : ℕ) (s : Side) → IsSide n s → IsSide n (after next k s)
  after_within zero s l = l
  after_within (suc k) s l = after_within k (next s) (within s l)

  -- what is reached after i steps and again after k more is reached after k steps from s: it is s
  stripped : (i j k : ℕ) (s : Side) → IsSide n s → j ≡ i + k → after next i s ≡ after next j s → s ≡ after next k s
  stripped zero j k s l e f = let same : j ≡ k = omega (arith, e) in f ∙ ap (λ m. after next m s) same
  stripped (suc i) zero k s l e f = absurd (omega (arith, e))
  stripped (suc i) (suc j) k s l e f =
      stripped i j k s l (omega (arith, e))
      (one (after next i s) (after next j s) (after_within i s l) (after_within j s l) (sym (after-next next i s) ∙ f ∙ after-next next j s))

  -- before the row comes back, no side is reached twice
  apart : (s : Side) (m i j : ℕ) → IsSide n s → ((k : ℕ) → 1 ≤ k → k < m → after next k s ≢ s) → i < j → j < m → after next i s ≢ after next j s
  apart s m i j l fresh less short e = fresh (j - i) (omega (arith, less)) (omega (arith, less, short)) (sym (stripped i j (j - i) s l (omega (arith, less)) e))

  -- so it cannot go on for more than all sides
  must_return : (s : Side) → IsSide n s → ((k : ℕ) → 1 ≤ k → k ≤ 2 * n → after next k s ≢ s) → ⊥
  must_return s l fresh =
      let m = 2 * n + 1 in
      let number = λ (k : ℕ). side_number (after next k s) in
      let numbers = map number (range_with_len 0 m) in
      let long : length numbers ≡ m = length-map-range_with_len number 0 m in
      let at : (k : ℕ) (d : ℕ) → k < m → get_or numbers k d ≡ number k = λ k d less. get_or-map-range_with_len number 0 m k k d less (omega arith) in
      let le : length numbers ≤ 2 * n = length-le_from_distinct_below numbers (2 * n)
      (IsDistinct-from_apart eqb numbers (λ i j d less short.
      let jm : j < m = omega (arith, short, long) in
      let im : i < m = omega (arith, less, jm) in
      let ne : number i ≢ number j
      = λ e. apart s m i j l (λ k a b. fresh k a (omega (arith, b))) less jm (side_number-inj (after next i s) (after next j s) e) in
      let p = at i d im in
      let q = at j d jm in
      grind (arith, nat_tests)))
      (λ q c.
      let a = Any-from_list_any (eqb q) numbers c in
      let short : a.0 < m = omega (arith, a.2, long) in
      let same : number a.0 ≡ a.1 = sym (at a.0 a.1 short) ∙ a.3 in
      let held = eqb-true q a.1 a.4 in
      let bound = number_within n (after next a.0 s) (after_within a.0 s l) in
      omega (arith, same, held, bound)) in
      omega (arith, le, long)

  pub ring_is_cycle : (s : Side) → IsSide n s → IsCycle n next s (row_until next s (2 * n) s)
  ring_is_cycle s l = by (row_ends next s (2 * n) s)
    where
      row : List Side
      row = row_until next s (2 * n) s

      by : Returns next s s (row_until next s (2 * n) s) ⊎ GoesOn next s s (2 * n) (row_until next s (2 * n) s) → IsCycle n next s (row_until next s (2 * n) s)
      by (inl r) = record {
        some = r.some;
        follows = row_follows next s (2 * n) s;
        back = r.back;
        within = λ k d less. subst (IsSide n) (sym (row_follows next s (2 * n) s k d less)) (after_within k s l);
        short = row_short next s (2 * n) s;
        differ = λ i j d less short e. apart s (length (row_until next s (2 * n) s)) i j l r.fresh less short
            (sym (row_follows next s (2 * n) s i d (omega (arith, less, short))) ∙ e ∙ row_follows next s (2 * n) s j d short);
      }
      by (inr g) = absurd (must_return s l g.fresh)

  -- ---- a cycle is closed on both sides

  -- after each side comes its next one
  pub cycle_round : (s : Side) (row : List Side) → IsCycle n next s row → IsRound next row
  cycle_round s row c k d l = by (cases_lt (k + 1) (length row))
    where
      by : (k + 1 < length row) ⊎ (length row ≤ k + 1) → get_or row (place_after (length row) k) d ≡ next (get_or row k d)
      by (inl more) =
          let test : nat_lt (k + 1) (length row) ≡ true = grind (arith, nat_tests) in
          let one_more : k + 1 ≡ suc k = omega arith in
          ap (λ (b : Bool). get_or row (if b then k + 1 else 0) d) test
          ∙ c.follows (k + 1) d more ∙ ap (λ m. after next m s) one_more ∙ after-next next k s ∙ ap next (sym (c.follows k d l))
      by (inr last) =
          let test : nat_lt (k + 1) (length row) ≡ false = grind (arith, nat_tests) in
          let all : length row ≡ suc k = omega (arith, l, last) in
          ap (λ (b : Bool). get_or row (if b then k + 1 else 0) d) test
          ∙ c.follows 0 d c.some ∙ sym c.back ∙ ap (λ m. after next m s) all ∙ after-next next k s ∙ ap next (sym (c.follows k d l))

  -- a side whose next one is in the row is in it
  pub cycle_before : (s t : Side) (row : List Side) → IsCycle n next s row → IsSide n t → Contains row (next t) → Contains row t
  cycle_before s t row c l (zero, m, e) =
      let k = length row - 1 in
      let some = c.some in
      let short : k < length row = omega (arith, some) in
      let all : suc k ≡ length row = omega (arith, some) in
      let last : next (get_or row k t) ≡ next t =
      ap next (c.follows k t short) ∙ sym (after-next next k s) ∙ ap (λ i. after next i s) all ∙ c.back ∙ sym (c.follows 0 (next t) m) ∙ e in
      (k, short, one (get_or row k t) t (c.within k t short) l last)
  cycle_before s t row c l (suc k, m, e) =
      let short : k < length row = omega (arith, m) in
      let here : next (get_or row k t) ≡ next t =
      ap next (c.follows k t short) ∙ sym (after-next next k s) ∙ sym (c.follows (suc k) (next t) m) ∙ e in
      (k, short, one (get_or row k t) t (c.within k t short) l here)

  -- so is one that comes to the row after some steps
  pub cycle_back : (k : ℕ) (s t : Side) (row : List Side) → IsCycle n next s row → IsSide n t → Contains row (after next k t) → Contains row t
  cycle_back zero s t row c l h = h
  cycle_back (suc k) s t row c l h = cycle_before s t row c l (cycle_back k s (next t) row c (within t l) h)

  -- and a cycle is its own beginning's
  pub cycle_head : (s : Side) (row : List Side) (d : Side) → IsCycle n next s row → get_or row 0 d ≡ s
  cycle_head s row d c = c.follows 0 d c.some
