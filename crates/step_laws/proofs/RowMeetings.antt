-- Rows of segments that meet at their ends alone: turned round, and one after the other.
use Rattle.std.proofs.Common.{◌≡◌, ◌≢◌, ◌⊎◌, inl, inr, ℕ, zero, suc, ◌+◌, ◌≤◌, true, pos, ◌<ℤ◌, List, [], ◌∷◌, ◌++◌, map, length, reverse, refl, sym, ap, ◌∙◌, subst, arith}
use Rattle.std.proofs.lemmas.List.{length-append, length-map, length-reverse}
use Rattle.tgap_model.specs.declared.geometry.Point.{Point}
use Rattle.tgap_model.specs.declared.geometry.Fraction.{Fraction}
use Rattle.tgap_model.specs.declared.geometry.Seg.{Seg}
use Rattle.tgap_model.specs.Segment.{is_at, is_on}
use Rattle.slice_laws.proofs.SliceSegments.{at_append}
use Rattle.slice_laws.proofs.Paths.{flip, reverse_cons}
use Rattle.slice_laws.proofs.Places.{At}
use Rattle.slice_laws.proofs.Meetings.{on_flip}

-- ---- where segments meet

-- each common point of two segments is one that R allows
abbrev pub MeetOnly : Seg → Seg → (Point → Type 0) → Type 0
MeetOnly g h R = (p : Fraction) → pos 0 <ℤ p.d → is_on p g ≡ true → is_on p h ≡ true → (v : Point) × (is_at p v ≡ true) × R v

-- v is an end of the row, at its segment g at place n
abbrev pub IsEndAt : List Seg → ℕ → Seg → Point → Type 0
IsEndAt gs n g v = ((n ≡ 0) × (g.a ≡ v)) ⊎ ((suc n ≡ length gs) × (g.b ≡ v))

-- h, at place m, is the next segment of g, at place n, and v is between them
abbrev pub IsNextAt : ℕ → ℕ → Seg → Seg → Point → Type 0
IsNextAt n m g h v = (m ≡ suc n) × (g.b ≡ v) × (h.a ≡ v)

-- v is an end of the row at both segments, or between them
abbrev pub IsOwnMeeting : List Seg → ℕ → ℕ → Seg → Seg → Point → Type 0
IsOwnMeeting gs n m g h v = (IsEndAt gs n g v × IsEndAt gs m h v) ⊎ (IsNextAt n m g h v ⊎ IsNextAt m n h g v)

-- Two rows meet at points alone that are ends of both.
abbrev pub MeetAtEnds : List Seg → List Seg → Type 0
MeetAtEnds gs hs = (n m : ℕ) (g h : Seg) → At gs n g → At hs m h → MeetOnly g h (λ v. IsEndAt gs n g v × IsEndAt hs m h v)

-- A row has segments, each with two different ends, which meet at its own ends and between one and the next alone.
pub record IsProperRow (gs : List Seg) : Type 0 where
  pub long : 1 ≤ length gs
  pub steps : (n : ℕ) (g : Seg) → At gs n g → g.a ≢ g.b
  pub own : (n m : ℕ) (g h : Seg) → At gs n g → At gs m h → n ≢ m → MeetOnly g h (IsOwnMeeting gs n m g h)

-- more points may be allowed
pub meet_widened : (g h : Seg) (R S : Point → Type 0) → ((v : Point) → R v → S v) → MeetOnly g h R → MeetOnly g h S
meet_widened g h R S wide meet p d on_g on_h = let m = meet p d on_g on_h in (m.0, m.1, wide m.0 m.2)

-- which of two segments is named first does not matter
meet_turned : (g h : Seg) (R : Point → Type 0) → MeetOnly g h R → MeetOnly h g R
meet_turned g h R meet p d on_h on_g = meet p d on_g on_h

own_turned : (gs : List Seg) (n m : ℕ) (g h : Seg) (v : Point) → IsOwnMeeting gs n m g h v → IsOwnMeeting gs m n h g v
own_turned gs n m g h v (inl e) = inl (e.1, e.0)
own_turned gs n m g h v (inr (inl e)) = inr (inr e)
own_turned gs n m g h v (inr (inr e)) = inr (inl e)

-- which of two rows is named first does not matter
pub ends_turned : (gs hs : List Seg) → MeetAtEnds gs hs → MeetAtEnds hs gs
ends_turned gs hs apart n m h g a b =
    meet_turned g h _ (meet_widened g h (λ v. IsEndAt gs m g v × IsEndAt hs n h v) (λ v. IsEndAt hs n h v × IsEndAt gs m g v) (λ v e. (e.1, e.0))
    (apart m n g h b a))

-- ---- places in lists

-- what stands at place n of a list that is turned round stands at the same place from the other end
at_reverse : {A : Type 0} (xs : List A) (n : ℕ) (x : A) → At (reverse xs) n x → (m : ℕ) × (suc (n + m) ≡ length xs) × At xs m x
at_reverse [] n x a = absurd a
at_reverse (y ∷ ys) n x a = elim (at_append (reverse ys) (y ∷ []) n x (subst (λ zs. At zs n x) (reverse_cons y ys) a)) [
  | inl b ↦ (let r = at_reverse ys n x b in (suc r.0, omega (arith, r.1), r.2))
  | inr (o, e, b) ↦ (zero, omega (arith, e, only o b, length-reverse ys), at_only o b)
]
  where
    only : (o : ℕ) → At (y ∷ []) o x → o ≡ 0
    only zero b = refl
    only (suc o) b = absurd b

    at_only : (o : ℕ) → At (y ∷ []) o x → y ≡ x
    at_only zero b = b
    at_only (suc o) b = absurd b

-- what stands in a list of segments that are each turned round
at_flipped : (gs : List Seg) (n : ℕ) (g : Seg) → At (map flip gs) n g → At gs n (flip g)
at_flipped [] n g a = absurd a
at_flipped (h ∷ hs) zero g a = ap flip a
at_flipped (h ∷ hs) (suc n) g a = at_flipped hs n g a

-- ---- a row that is turned round

-- the segments turned round, the last one first
abbrev pub turned_row : List Seg → List Seg
turned_row gs = reverse (map flip gs)

module _ (gs : List Seg) where
  turned_length : length (turned_row gs) ≡ length gs
  turned_length = length-reverse (map flip gs) ∙ length-map gs flip

  -- a segment of it is one of the row, turned round
  turned_place : (n : ℕ) (g : Seg) → At (turned_row gs) n g → (m : ℕ) × (suc (n + m) ≡ length gs) × At gs m (flip g)
  turned_place n g a = let r = at_reverse (map flip gs) n g a in (r.0, r.1 ∙ length-map gs flip, at_flipped gs r.0 g r.2)

  -- an end of the row is an end of it turned round
  turned_end : (n m : ℕ) (g : Seg) (v : Point) → suc (n + m) ≡ length gs → IsEndAt gs m (flip g) v → IsEndAt (turned_row gs) n g v
  turned_end n m g v e (inl (f, at)) = inr (omega (arith, e, f, turned_length), at)
  turned_end n m g v e (inr (f, at)) = inl (omega (arith, e, f), at)

  -- and a point between two segments is between them turned round
  turned_next : (n m i j : ℕ) (g h : Seg) (v : Point) → suc (n + i) ≡ length gs → suc (m + j) ≡ length gs → IsNextAt i j (flip g) (flip h) v
      → IsNextAt m n h g v
  turned_next n m i j g h v e f (next, at_g, at_h) = (omega (arith, e, f, next), at_h, at_g)

  -- a proper row is one turned round
  pub turned_proper : IsProperRow gs → IsProperRow (turned_row gs)
  turned_proper proper = record {
    long = omega (arith, proper.long, turned_length);
    steps = λ n g a e. let r = turned_place n g a in proper.steps r.0 (flip g) r.2 (sym e);
    own = λ n m g h a b other p d on_g on_h.
        let i = turned_place n g a in
        let j = turned_place m h b in
        let meets = proper.own i.0 j.0 (flip g) (flip h) i.2 j.2 (λ e. other (omega (arith, e, i.1, j.1))) p d (on_flip p g on_g) (on_flip p h on_h) in
        (meets.0, meets.1, by n m i.0 j.0 g h meets.0 i.1 j.1 meets.2);
  }
    where
      by : (n m i j : ℕ) (g h : Seg) (v : Point) → suc (n + i) ≡ length gs → suc (m + j) ≡ length gs → IsOwnMeeting gs i j (flip g) (flip h) v
          → IsOwnMeeting (turned_row gs) n m g h v
      by n m i j g h v e f (inl (at_g, at_h)) = inl (turned_end n i g v e at_g, turned_end m j h v f at_h)
      by n m i j g h v e f (inr (inl next)) = inr (inr (turned_next n m i j g h v e f next))
      by n m i j g h v e f (inr (inr next)) = inr (inl (turned_next m n j i h g v f e next))

  -- it meets another row where it met it before
  pub turned_meets : (hs : List Seg) → MeetAtEnds gs hs → MeetAtEnds (turned_row gs) hs
  turned_meets hs apart n m g h a b p d on_g on_h =
      let i = turned_place n g a in
      let meets = apart i.0 m (flip g) h i.2 b p d (on_flip p g on_g) on_h in
      (meets.0, meets.1, (turned_end n i.0 g meets.0 i.1 meets.2.0, meets.2.1))

-- ---- one row after the other

-- The first row ends at p and the second starts there, and neither has another end at p.
pub record AreEndToEnd (p : Point) (gs hs : List Seg) : Type 0 where
  pub ends : (n : ℕ) (g : Seg) → At gs n g → suc n ≡ length gs → g.b ≡ p
  pub starts : (n : ℕ) (h : Seg) → At hs n h → n ≡ 0 → h.a ≡ p
  pub no_start : (n : ℕ) (g : Seg) → At gs n g → n ≡ 0 → g.a ≢ p
  pub no_end : (n : ℕ) (h : Seg) → At hs n h → suc n ≡ length hs → h.b ≢ p

module _ (p : Point) (gs hs : List Seg) (met : AreEndToEnd p gs hs) where
  -- an end of the first row is p or an end of both together, and so is one of the second row
  first_end : (n : ℕ) (g : Seg) (v : Point) → At gs n g → IsEndAt gs n g v → v ≢ p → IsEndAt (gs ++ hs) n g v
  first_end n g v a (inl e) other = inl e
  first_end n g v a (inr (last, at)) other = absurd (other (sym at ∙ met.ends n g a last))

  second_end : (o n : ℕ) (h : Seg) (v : Point) → n ≡ length gs + o → At hs o h → IsEndAt hs o h v → v ≢ p → IsEndAt (gs ++ hs) n h v
  second_end o n h v place a (inl (start, at)) other = absurd (other (sym at ∙ met.starts o h a start))
  second_end o n h v place a (inr (last, at)) other = inr (omega (arith, place, last, length-append gs hs), at)

  -- two segments of one row have no end of the row in common
  first_ends_differ : (n m : ℕ) (g h : Seg) (v : Point) → At gs n g → At gs m h → n ≢ m → IsEndAt gs n g v → IsEndAt gs m h v → ⊥
  first_ends_differ n m g h v a b other (inl (e, x)) (inl (f, y)) = other (e ∙ sym f)
  first_ends_differ n m g h v a b other (inl (e, x)) (inr (f, y)) = met.no_start n g a e (x ∙ sym y ∙ met.ends m h b f)
  first_ends_differ n m g h v a b other (inr (e, x)) (inl (f, y)) = met.no_start m h b f (y ∙ sym x ∙ met.ends n g a e)
  first_ends_differ n m g h v a b other (inr (e, x)) (inr (f, y)) = other (omega (arith, e, f))

  second_ends_differ : (n m : ℕ) (g h : Seg) (v : Point) → At hs n g → At hs m h → n ≢ m → IsEndAt hs n g v → IsEndAt hs m h v → ⊥
  second_ends_differ n m g h v a b other (inl (e, x)) (inl (f, y)) = other (e ∙ sym f)
  second_ends_differ n m g h v a b other (inl (e, x)) (inr (f, y)) = met.no_end m h b f (y ∙ sym x ∙ met.starts n g a e)
  second_ends_differ n m g h v a b other (inr (e, x)) (inl (f, y)) = met.no_end n g a e (x ∙ sym y ∙ met.starts m h b f)
  second_ends_differ n m g h v a b other (inr (e, x)) (inr (f, y)) = other (omega (arith, e, f))

  -- where a segment of the first row meets one of the second, they follow one another or it is an end of both rows together
  across : (n m o : ℕ) (g h : Seg) (v : Point) → m ≡ length gs + o → At gs n g → At hs o h → IsEndAt gs n g v → IsEndAt hs o h v
      → IsOwnMeeting (gs ++ hs) n m g h v
  across n m o g h v place a b (inl (e, x)) (inl (f, y)) = absurd (met.no_start n g a e (x ∙ sym y ∙ met.starts o h b f))
  across n m o g h v place a b (inl (e, x)) (inr (f, y)) = inl (inl (e, x), inr (omega (arith, place, f, length-append gs hs), y))
  across n m o g h v place a b (inr (e, x)) (inl (f, y)) = inr (inl (omega (arith, place, e, f), x, y))
  across n m o g h v place a b (inr (e, x)) (inr (f, y)) = absurd (met.no_end o h b f (y ∙ sym x ∙ met.ends n g a e))

  module _ (first : IsProperRow gs) (second : IsProperRow hs) (apart : MeetAtEnds gs hs) where
    both_first : (n m : ℕ) (g h : Seg) → At gs n g → At gs m h → n ≢ m → MeetOnly g h (IsOwnMeeting (gs ++ hs) n m g h)
    both_first n m g h a b other = meet_widened g h (IsOwnMeeting gs n m g h) (IsOwnMeeting (gs ++ hs) n m g h) by (first.own n m g h a b other)
      where
        by : (v : Point) → IsOwnMeeting gs n m g h v → IsOwnMeeting (gs ++ hs) n m g h v
        by v (inl (e, f)) = absurd (first_ends_differ n m g h v a b other e f)
        by v (inr next) = inr next

    both_second : (n m i j : ℕ) (g h : Seg) → n ≡ length gs + i → m ≡ length gs + j → At hs i g → At hs j h → n ≢ m
        → MeetOnly g h (IsOwnMeeting (gs ++ hs) n m g h)
    both_second n m i j g h e f a b other =
        meet_widened g h (IsOwnMeeting hs i j g h) (IsOwnMeeting (gs ++ hs) n m g h) by (second.own i j g h a b differ)
      where
        differ : i ≢ j
        differ s = other (omega (arith, s, e, f))

        by : (v : Point) → IsOwnMeeting hs i j g h v → IsOwnMeeting (gs ++ hs) n m g h v
        by v (inl (x, y)) = absurd (second_ends_differ i j g h v a b differ x y)
        by v (inr (inl (next, x, y))) = inr (inl (omega (arith, next, e, f), x, y))
        by v (inr (inr (next, x, y))) = inr (inr (omega (arith, next, e, f), x, y))

    one_of_each : (n m o : ℕ) (g h : Seg) → m ≡ length gs + o → At gs n g → At hs o h → MeetOnly g h (IsOwnMeeting (gs ++ hs) n m g h)
    one_of_each n m o g h place a b =
        meet_widened g h (λ v. IsEndAt gs n g v × IsEndAt hs o h v) (IsOwnMeeting (gs ++ hs) n m g h) (λ v e. across n m o g h v place a b e.0 e.1)
        (apart n o g h a b)

    -- the two rows together are a proper one
    pub joined_proper : IsProperRow (gs ++ hs)
    joined_proper = record {
      long = omega (arith, first.long, length-append gs hs);
      steps = λ n g a. elim (at_append gs hs n g a) [ inl b ↦ first.steps n g b | inr (o, e, b) ↦ second.steps o g b ];
      own = λ n m g h a b other. by n m g h other (at_append gs hs n g a) (at_append gs hs m h b);
    }
      where
        by : (n m : ℕ) (g h : Seg) → n ≢ m → At gs n g ⊎ ((o : ℕ) × (n ≡ length gs + o) × At hs o g)
            → At gs m h ⊎ ((o : ℕ) × (m ≡ length gs + o) × At hs o h) → MeetOnly g h (IsOwnMeeting (gs ++ hs) n m g h)
        by n m g h other (inl a) (inl b) = both_first n m g h a b other
        by n m g h other (inl a) (inr (j, f, b)) = one_of_each n m j g h f a b
        by n m g h other (inr (i, e, a)) (inl b) =
            meet_widened g h (IsOwnMeeting (gs ++ hs) m n h g) (IsOwnMeeting (gs ++ hs) n m g h) (own_turned (gs ++ hs) m n h g)
            (meet_turned h g (IsOwnMeeting (gs ++ hs) m n h g) (one_of_each m n i h g e b a))
        by n m g h other (inr (i, e, a)) (inr (j, f, b)) = both_second n m i j g h e f a b other

  -- and they meet a row that has no end at p at ends alone, where each of them does
  pub joined_meets : (ks : List Seg) → ((m : ℕ) (k : Seg) (v : Point) → At ks m k → IsEndAt ks m k v → v ≢ p) → MeetAtEnds gs ks → MeetAtEnds hs ks
      → MeetAtEnds (gs ++ hs) ks
  joined_meets ks away first second n m g k a b = by (at_append gs hs n g a)
    where
      by : At gs n g ⊎ ((o : ℕ) × (n ≡ length gs + o) × At hs o g) → MeetOnly g k (λ v. IsEndAt (gs ++ hs) n g v × IsEndAt ks m k v)
      by (inl c) =
          meet_widened g k (λ v. IsEndAt gs n g v × IsEndAt ks m k v) (λ v. IsEndAt (gs ++ hs) n g v × IsEndAt ks m k v)
          (λ v e. (first_end n g v c e.0 (away m k v b e.1), e.1)) (first n m g k c b)
      by (inr (o, place, c)) =
          meet_widened g k (λ v. IsEndAt hs o g v × IsEndAt ks m k v) (λ v. IsEndAt (gs ++ hs) n g v × IsEndAt ks m k v)
          (λ v e. (second_end o n g v place c e.0 (away m k v b e.1), e.1)) (second o m g k c b)
