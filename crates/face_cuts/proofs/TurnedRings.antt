-- The rows of next sides of two sides of one ring are turns of one another.
use Rattle.std.proofs.Common.{◌≡◌, ◌≢◌, ◌⊎◌, inl, inr, ⊎_elim, ℕ, zero, suc, ◌+◌, ◌-◌, ◌*◌, ◌<◌, ◌≤◌, List, ◌++◌, length, length-append, take, drop, get_or, sym, ap, ◌∙◌, length-drop, arith}
use Rattle.std.proofs.lemmas.Bool.{cases_eq, cases_lt}
use Rattle.std.proofs.lemmas.List.{ext_get_or, get_or_append_left, get_or-append_right, get_or-drop, get_or-take, length-take}
use Rattle.ring_walk.specs.declared.span.Span.{Span}
use Rattle.ring_walk.specs.declared.side.Side.{Side}
use Rattle.ring_walk.specs.Rings.{row_until, next_side, ring_from}
use Rattle.ring_walk.specs.Spans.{IsSide}
use Rattle.ring_walk.proofs.NextSides.{next_within, next_inj}
use Rattle.ring_walk.proofs.Orbits.{after, Follows, Returns, GoesOn, row_follows, row_ends, IsCycle, ring_is_cycle}

-- ---- one row

module _ (next : Side → Side) where
  after_more : (i j : ℕ) (s : Side) → after next i (after next j s) ≡ after next (i + j) s
  after_more i zero s = let e : i ≡ i + 0 = omega arith in ap (λ k. after next k s) e
  after_more i (suc j) s =
      let e : i + suc j ≡ suc (i + j) = omega arith in
      after_more i j (next s) ∙ ap (λ k. after next k s) (sym e)

  -- a row that comes back for the first time at its end is the row of next sides
  row_is : (s : Side) (m : ℕ) (row : List Side) → 0 < length row → length row ≤ m → Follows next s row → after next (length row) s ≡ s
      → ((k : ℕ) → 1 ≤ k → k < length row → after next k s ≢ s) → row_until next s m s ≡ row
  row_is s m row some short follows back fresh =
      let long : length (row_until next s m s) ≡ length row = by (row_ends next s m s) in
      ext_get_or s (row_until next s m s) row long (λ i l.
      row_follows next s m s i s l ∙ sym (follows i s (omega (arith, l, long))))
    where
      by : Returns next s s (row_until next s m s) ⊎ GoesOn next s s m (row_until next s m s) → length (row_until next s m s) ≡ length row
      by (inl r) =
          let l = length (row_until next s m s) in
          let some' = r.some in
          ⊎_elim
          (λ less. absurd (fresh l (omega (arith, some')) less r.back))
          (λ le. ⊎_elim (λ same. same) (λ ne. absurd (r.fresh (length row) (omega (arith, some)) (omega (arith, le, ne)) back)) (cases_eq l (length row)))
          (cases_lt l (length row))
      by (inr g) = absurd (g.fresh (length row) (omega (arith, some)) short back)

-- ---- a cycle from another of its sides on

abbrev pub turn : ℕ → List Side → List Side
turn k row = drop k row ++ take k row

pub length-turn : (k : ℕ) (row : List Side) → k ≤ length row → length (turn k row) ≡ length row
length-turn k row l = omega (arith, l, length-append (drop k row) (take k row), length-drop k row, length-take k row)

module _ (n : ℕ) (next : Side → Side) (s : Side) (row : List Side) (c : IsCycle n next s row) (k : ℕ) (here : k < length row) where
  abbrev t : Side
  t = get_or row k s

  t_is : t ≡ after next k s
  t_is = c.follows k s here

  -- after i steps more than the row is long it is again at the same side
  round_again : (i : ℕ) → after next (i + length row) s ≡ after next i s
  round_again i = sym (after_more next i (length row) s) ∙ ap (after next i) c.back

  from_t : (i : ℕ) → after next i t ≡ after next (i + k) s
  from_t i = ap (after next i) t_is ∙ after_more next i k s

  turn_follows : Follows next t (turn k row)
  turn_follows i d l = ⊎_elim front back (cases_lt i (length row - k))
    where
      long : length (turn k row) ≡ length row
      long = length-turn k row (omega (arith, here))

      front : i < length row - k → get_or (turn k row) i d ≡ after next i t
      front less =
          let e : k + i ≡ i + k = omega arith in
          get_or_append_left (drop k row) (take k row) d i (omega (arith, less, length-drop k row))
          ∙ get_or-drop k row i d ∙ c.follows (k + i) d (omega (arith, less)) ∙ ap (λ j. after next j s) e ∙ sym (from_t i)

      back : length row - k ≤ i → get_or (turn k row) i d ≡ after next i t
      back le =
          let j = i - (length row - k) in
          let short : j < k = omega (arith, le, l, long, here) in
          let e : j + length row ≡ i + k = omega (arith, le, here) in
          get_or-append_right (drop k row) (take k row) (length row - k) i d (length-drop k row) le ∙ get_or-take k row j d short ∙ c.follows j d (omega (arith, short, here))
          ∙ sym (round_again j) ∙ ap (λ m. after next m s) e ∙ sym (from_t i)

  -- the side before t that is reached from it after i steps
  turn_fresh : (i : ℕ) → 1 ≤ i → i < length row → after next i t ≢ t
  turn_fresh i some less e = ⊎_elim front back (cases_lt (i + k) (length row))
    where
      front : i + k < length row → ⊥
      front l = c.differ k (i + k) s (omega (arith, some)) l (sym e ∙ from_t i ∙ sym (c.follows (i + k) s l))

      back : length row ≤ i + k → ⊥
      back le =
          let j = i + k - length row in
          let short : j < k = omega (arith, le, less) in
          let again : j + length row ≡ i + k = omega (arith, le) in
          c.differ j k s short here
          (c.follows j s (omega (arith, short, here)) ∙ sym (round_again j) ∙ ap (λ m. after next m s) again ∙ sym (from_t i) ∙ e)

  turn_back : after next (length (turn k row)) t ≡ t
  turn_back =
      let long = length-turn k row (omega (arith, here)) in
      let e : length (turn k row) + k ≡ k + length row = omega (arith, long) in
      from_t (length (turn k row)) ∙ ap (λ m. after next m s) e ∙ round_again k ∙ sym t_is

  pub cycle_turned : row_until next t (2 * n) t ≡ turn k row
  cycle_turned =
      let long = length-turn k row (omega (arith, here)) in
      let short = c.short in
      row_is next t (2 * n) (turn k row) (omega (arith, long, here)) (omega (arith, long, short)) turn_follows turn_back
      (λ i some less. turn_fresh i some (omega (arith, less, long)))

-- ---- the row of a side of spans

module _ (spans : List Span) where
  abbrev n : ℕ
  n = length spans

  pub ring_cycle : (s : Side) → IsSide n s → IsCycle n (next_side spans) s (ring_from spans s)
  ring_cycle s l = ring_is_cycle n (next_side spans) (next_within spans) (next_inj spans) s l
