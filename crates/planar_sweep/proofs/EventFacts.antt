-- The events of the segments: those up to a time are a front of them, their changes are made at their times, and what comes has not left.
use Rattle.std.proofs.Common.{◌≡◌, ◌⊎◌, ⊎_elim, ℕ, suc, ◌+◌, ◌<◌, ◌≤◌, Bool, true, false, List, [], ◌∷◌, ◌++◌, length, map, filter, take, drop, get_or, All, Contains, ℤ, pos, ◌+ℤ◌, ◌*ℤ◌, ◌<ℤ◌, ◌≤ℤ◌, cond, refl, sym, ap, ◌∙◌, subst, arith}
use Rattle.std.specs.List.{range_with_len}
use Rattle.std.proofs.lemmas.Grind.{flat_map-append}
use Rattle.std.proofs.lemmas.Int.{ints, by_lt_z}
use Rattle.std.proofs.lemmas.List.{append_assoc, append-nil, take_more, take-append-drop, get_or_default, get_or-take, length-take-le}
use Rattle.std.proofs.lemmas.List.FromFn.{get_or-map-range_with_len, length-map-range_with_len, map-range_with_len_more, filter_of_map_range_with_len_more}
use Rattle.std.proofs.lemmas.List.Elements.{All-nil, All-cons, All-contains, Contains-append_left, Contains-append_right, Contains-append_cases}
use Rattle.lemmas.proofs.Members.{Contains-from_flat_map}
use Rattle.lemmas.proofs.Signs.{Decides-int_lt, lt_le_trans}
use Rattle.tgap_model.specs.declared.geometry.Seg.{Seg}
use Rattle.planar_sweep.specs.Over.{GoesForward, is_slanted}
use Rattle.planar_sweep.specs.Times.{time_in, time_out}
use Rattle.planar_sweep.specs.Rows.{seg_at, Change, coming, leaving, time_of, Moment, changes_of, IsChangeAt, AreEvents, IsRow}
use Rattle.planar_sweep.proofs.Heights.{upright}

-- ---- of a function of the first numbers

module _ {A : Type 0} (number : A → ℕ) (f : ℕ → A) (numbered : (n : ℕ) → number (f n) ≡ n) (count : ℕ) where
  abbrev listed : List A
  listed = map f (range_with_len 0 count)

  long : length listed ≡ count
  long = length-map-range_with_len f 0 count

  at_place : (k : ℕ) (d : A) → k < length listed → f k ≡ get_or listed k d
  at_place k d short = sym (get_or-map-range_with_len f 0 count k k d (omega (arith, short, long)) (omega arith))

  pub listed_each : (P : A → Type 0) → ((n : ℕ) → n < count → P (f n)) → All P (map f (range_with_len 0 count))
  listed_each P h k d short = subst P (at_place k d short) (h k (omega (arith, short, long)))

  pub listed_has : (n : ℕ) → n < count → Contains (map f (range_with_len 0 count)) (f n)
  listed_has n short = let inside : n < length listed = omega (arith, short, long) in (n, inside, sym (at_place n (f n) inside))

-- one more of them
pub listed_more : {A : Type 0} (f : ℕ → A) (old now : List A) (i : ℕ) → now ≡ old ++ map f (range_with_len 0 i) → now ++ f i ∷ [] ≡ old ++ map f (range_with_len 0 (i + 1))
listed_more f old now i e = ap (λ xs. xs ++ f i ∷ []) e ∙ append_assoc old (map f (range_with_len 0 i)) (f i ∷ []) ∙ ap (λ xs. old ++ xs) (sym (map-range_with_len_more f 0 i i (omega arith)))

-- one more of them, of which those that pass a test are kept
pub kept_more : {A : Type 0} (p : A → Bool) (f : ℕ → A) (old now : List A) (i : ℕ) → now ≡ old ++ filter p (map f (range_with_len 0 i))
    → now ++ filter p (f i ∷ []) ≡ old ++ filter p (map f (range_with_len 0 (i + 1)))
kept_more p f old now i e = ap (λ xs. xs ++ filter p (f i ∷ [])) e ∙ append_assoc old (filter p (map f (range_with_len 0 i))) (filter p (f i ∷ []))
    ∙ ap (λ xs. old ++ xs) (sym (filter_of_map_range_with_len_more p f 0 i i (omega arith)))

-- ---- of the segments

-- a segment leaves after it has come
pub leaves_later : (s : Seg) → GoesForward s → time_in s <ℤ time_out s
leaves_later s f = by (is_slanted s) refl
  where
    slanted : (a b : ℤ) → a <ℤ b → (pos 4 *ℤ a +ℤ pos 2) <ℤ (pos 4 *ℤ b +ℤ pos 2)
    slanted a b h = omega (arith, ints)

    straight : (a b : ℤ) → a ≡ b → (pos 4 *ℤ a) <ℤ (pos 4 *ℤ b +ℤ pos 3)
    straight a b h = omega (arith, ints)

    by : (b : Bool) → is_slanted s ≡ b → (cond b (pos 4 *ℤ s.a.x +ℤ pos 2) (pos 4 *ℤ s.a.x)) <ℤ (cond b (pos 4 *ℤ s.b.x +ℤ pos 2) (pos 4 *ℤ s.b.x +ℤ pos 3))
    by true e = slanted s.a.x s.b.x ((Decides-int_lt s.a.x s.b.x).0 e)
    by false e = straight s.a.x s.b.x (upright s f e).same

module _ (segs : List Seg) (events : List Moment) (r : AreEvents segs events) where
  abbrev own : Moment → List Change
  own e = e.changes

  -- what holds of the times of some events holds of the times of their changes
  timed : (es : List Moment) → ((e : Moment) → Contains es e → Contains events e) → (P : ℤ → Type 0) → All (λ e. P e.time) es → (c : Change) → Contains (changes_of es) c → P (time_of segs c)
  timed es into P all c found =
      let w = Contains-from_flat_map own es c found in
      let e = w.0 in
      subst P (All-contains (IsChangeAt segs e.time) e.changes c (All-contains (λ f. All (IsChangeAt segs f.time) f.changes) events e r.real (into e w.1)) w.2).timed (All-contains (λ f. P f.time) es e all w.1)

  module _ (k : ℕ) where
    whole : take k events ++ drop k events ≡ events
    whole = take-append-drop k events

    pub done_timed : (P : ℤ → Type 0) → All (λ e. P e.time) (take k events) → (c : Change) → Contains (changes_of (take k events)) c → P (time_of segs c)
    done_timed = timed (take k events) (λ e found. subst (λ es. Contains es e) whole (Contains-append_left (take k events) (drop k events) e found))

    pub ahead_timed : (P : ℤ → Type 0) → All (λ e. P e.time) (drop k events) → (c : Change) → Contains (changes_of (drop k events)) c → P (time_of segs c)
    ahead_timed = timed (drop k events) (λ e found. subst (λ es. Contains es e) whole (Contains-append_right (take k events) (drop k events) e found))

    -- a change is done or ahead
    pub done_or_ahead : (c : Change) → Contains (changes_of events) c → Contains (changes_of (take k events)) c ⊎ Contains (changes_of (drop k events)) c
    done_or_ahead c found = Contains-append_cases (changes_of (take k events)) (changes_of (drop k events)) c
        (subst (λ cs. Contains cs c) (flat_map-append own (take k events) (drop k events)) (subst (λ es. Contains (changes_of es) c) (sym whole) found))

    module _ (d : Moment) (short : k < length events) where
      -- the changes of the next event come after those that are done
      pub done_more : changes_of (take (k + 1) events) ≡ changes_of (take k events) ++ (get_or events k d).changes
      done_more = ap changes_of (take_more events k d short)
          ∙ flat_map-append own (take k events) (get_or events k d ∷ [])
          ∙ ap (λ cs. changes_of (take k events) ++ cs) (append-nil (get_or events k d).changes)

      -- and each is one of a segment, made at its time
      pub real_next : All (IsChangeAt segs (get_or events k d).time) (get_or events k d).changes
      real_next = r.real k d short

      -- what comes then has not left
      pub not_left : (n : ℕ) → GoesForward (seg_at segs n) → Contains (get_or events k d).changes (coming n) → Contains (changes_of (take k events)) (leaving n) → ⊥
      not_left n forward comes left =
          let now = (All-contains (IsChangeAt segs (get_or events k d).time) (get_or events k d).changes (coming n) real_next comes).timed in
          clash (subst (λ (z : ℤ). time_out (seg_at segs n) ≤ℤ z) now (done_timed (λ z. z ≤ℤ (get_or events k d).time) before (leaving n) left)) (leaves_later (seg_at segs n) forward)
        where
          clash : {a b : ℤ} → a ≤ℤ b → b <ℤ a → ⊥
          clash h i = omega (arith, ints)

          before : All (λ e. e.time ≤ℤ (get_or events k d).time) (take k events)
          before l x inside =
              let less : l < k = omega (arith, inside, length-take-le k events (omega (arith, short))) in
              subst (λ (e : Moment). e.time ≤ℤ (get_or events k d).time) (get_or_default events l d x (omega (arith, less, short)) ∙ sym (get_or-take k events l x less)) (r.ascend l k d (omega (arith, less)) short)

-- The members of a row are the segments whose times of coming and leaving are on the two sides of the times of what is done.
module _ (segs : List Seg) (events : List Moment) (r : AreEvents segs events) (k : ℕ) (Done Ahead : ℤ → Type 0) where
  pub in_row_from : ((z : ℤ) → Done z → Ahead z → ⊥) → All (λ e. Done e.time) (take k events) → All (λ e. Ahead e.time) (drop k events) → (row : List ℕ) → IsRow segs (changes_of (take k events)) row
      → (n : ℕ) → n < length segs → Done (time_in (seg_at segs n)) → Ahead (time_out (seg_at segs n)) → Contains row n
  in_row_from clash done ahead row is n known come leave = is.back n known
      (⊎_elim (λ c. c) (λ c. absurd (clash (time_in (seg_at segs n)) come (ahead_timed segs events r k Ahead ahead (coming n) c))) (done_or_ahead segs events r k (coming n) (r.come n known)))
      (λ c. clash (time_out (seg_at segs n)) (done_timed segs events r k Done done (leaving n) c) leave)

  pub from_in_row : All (λ e. Done e.time) (take k events) → All (λ e. Ahead e.time) (drop k events) → (row : List ℕ) → IsRow segs (changes_of (take k events)) row
      → (n : ℕ) → Contains row n → Done (time_in (seg_at segs n)) × Ahead (time_out (seg_at segs n))
  from_in_row done ahead row is n c =
      let i = is.into n c in (
        done_timed segs events r k Done done (coming n) i.1,
        ⊎_elim (λ left. absurd (i.2 left)) (λ left. ahead_timed segs events r k Ahead ahead (leaving n) left) (done_or_ahead segs events r k (leaving n) (r.leave n i.0)),
      )

-- ---- a front up to a time

pub record FrontUpTo (time : ℤ) (events : List Moment) : Type 0 where
  pub count : ℕ
  pub within : count ≤ length events
  pub done : All (λ e. e.time ≤ℤ time) (take count events)
  pub ahead : All (λ e. time <ℤ e.time) (drop count events)

pub front_up_to : (time : ℤ) (events : List Moment) → ((i j : ℕ) (d : Moment) → i ≤ j → j < length events → (get_or events i d).time ≤ℤ (get_or events j d).time) → FrontUpTo time events
front_up_to time [] up = record { count = 0; within = omega arith; done = All-nil (λ e. e.time ≤ℤ time); ahead = All-nil (λ e. time <ℤ e.time) }
front_up_to time (e ∷ es) up = by_lt_z time e.time
    (λ less. record { count = 0; within = omega arith; done = All-nil (λ f. f.time ≤ℤ time); ahead = λ k d short. lt_le_trans less (up 0 k d (omega arith) short) })
    (λ le. let r = front_up_to time es (λ i j d less short. up (suc i) (suc j) d (omega (arith, less)) (omega (arith, short))) in
    record { count = suc r.count; within = longer r.count r.within; done = All-cons (λ f. f.time ≤ℤ time) e (take r.count es) le r.done; ahead = r.ahead })
  where
    longer : (n : ℕ) → n ≤ length es → suc n ≤ length (e ∷ es)
    longer n h = omega (arith, h)
