-- The listed keys give each segment both its changes, each at its time, and in the order of the keys these times ascend.
use Rattle.std.proofs.Common.{◌≡◌, ⊎_elim, ℕ, zero, suc, ◌+◌, ◌*◌, ◌-◌, ◌/◌, ◌%◌, ◌<◌, ◌≤◌, Bool, true, false, cond, nat_lt, ◌&&◌, List, [], ◌∷◌, ◌++◌, length, map, flat_map, get_or, All, Contains, IsPermutation, ℤ, pos, neg_ℤ, ◌+ℤ◌, ◌-ℤ◌, ◌*ℤ◌, ◌≤ℤ◌, unsigned_abs, refl, sym, ap, ◌∙◌, subst, subst₂, arith}
use Rattle.std.specs.List.{range_with_len}
use Rattle.std.specs.List.Sorted.{IsNonDecreasingBy}
use Rattle.std.proofs.lemmas.Int.{ints}
use Rattle.std.proofs.lemmas.Bool.{and_parts, ltb-true}
use Rattle.std.proofs.lemmas.List.{append_assoc, append-nil, get_or-map, length-map}
use Rattle.std.proofs.lemmas.List.FromFn.{length-range_with_len, get_or-range_with_len}
use Rattle.std.proofs.lemmas.List.Elements.{All-cons, All-nil, Contains-append_left, Contains-append_right, Contains-append_cases}
use Rattle.std.proofs.lemmas.List.Sorted.{All-permutation, Contains-permutation}
use Rattle.lemmas.proofs.Members.{All-from_members, Contains-flat_map, Contains-from_flat_map, Contains-map, in_head, in_tail, in_cases, in_none}
use Rattle.tgap_model.specs.declared.geometry.Point.{Point}
use Rattle.tgap_model.specs.declared.geometry.Seg.{Seg}
use Rattle.tgap_model.specs.declared.segment.LabelledSegment.{LabelledSegment}
use Rattle.tgap_model.specs.Base.{same_point}
use Rattle.tgap_model.specs.Bounds.{HasNearEnds}
use Rattle.tgap_model.specs.Partition.{follows}
use Rattle.tgap_model.proofs.Points.{same_point-true}
use Rattle.planar_sweep.specs.declared.events.Event.{Event}
use Rattle.planar_sweep.specs.declared.events.Link.{Link}
use Rattle.planar_sweep.specs.Over.{is_slanted}
use Rattle.planar_sweep.specs.Times.{time_in, time_out}
use Rattle.planar_sweep.specs.Rows.{no_seg, seg_at, Change, coming, leaving, changes, event_at, event_of, key_time, Moment, moment_of, changes_of, IsChangeAt, AreEvents}
use Rattle.planar_sweep.specs.Ends.{segment_at}
use Rattle.planar_sweep.specs.EventKeys.{is_followed, key_of, leads, is_onward, is_back, link_at, link_before, coming_keys, leaving_keys, onward_keys, back_keys, own_keys, listed_keys}

-- ---- lists

-- what the next number of a range adds
pub flat_map-range_more : {A : Type 0} (f : ℕ → List A) (a n j : ℕ) → a + n ≡ j → flat_map f (range_with_len a (n + 1)) ≡ flat_map f (range_with_len a n) ++ f j
flat_map-range_more f a n j e = ap (λ m. flat_map f (range_with_len a m)) next ∙ by a n e
  where
    next : n + 1 ≡ suc n
    next = omega arith

    by : (a n : ℕ) → a + n ≡ j → flat_map f (range_with_len a (suc n)) ≡ flat_map f (range_with_len a n) ++ f j
    by a zero e = append-nil (f a) ∙ ap f (omega (arith, e))
    by a (suc n) e = ap (λ xs. f a ++ xs) (by (a + 1) n (omega (arith, e))) ∙ sym (append_assoc (f a) (flat_map f (range_with_len (a + 1) n)) (f j))

-- a number below the length is in it
in_range : (n k : ℕ) → k < n → Contains (range_with_len 0 n) k
in_range n k short = (k, omega (arith, short, length-range_with_len 0 n), omega (arith, get_or-range_with_len 0 n k k short))

-- the member of a list that may be empty
from_if : (b : Bool) (x y : ℕ) → Contains (cond b (x ∷ []) []) y → (b ≡ true) × (x ≡ y)
from_if true x y c = (refl, ⊎_elim (λ e. e) (λ i. absurd (in_none y i)) (in_cases x [] y c))
from_if false x y c = absurd (in_none y c)

from_neither : (a b : Bool) (x y : ℕ) → Contains (cond a [] (cond b [] (x ∷ []))) y → x ≡ y
from_neither true b x y c = absurd (in_none y c)
from_neither false true x y c = absurd (in_none y c)
from_neither false false x y c = ⊎_elim (λ e. e) (λ i. absurd (in_none y i)) (in_cases x [] y c)

-- ---- one key

-- the event of a key and its time are those of which it was made
pub made : (time : ℤ) (kind n : ℕ) → neg_ℤ (pos 17179869184) ≤ℤ time → kind < 4 → n < 134217728 → (event_of (key_of time kind n) ≡ event_at kind n) × (key_time (key_of time kind n) ≡ time)
made time kind n low few short = (
  ap (λ m. event_at (key / 134217728 % 4) m) number ∙ ap (λ m. event_at m n) kinds,
  ap (λ m. pos m -ℤ pos 17179869184) times ∙ back time low,
)
  where
    shifted : ℕ
    shifted = unsigned_abs (time +ℤ pos 17179869184)

    key : ℕ
    key = key_of time kind n

    rest : (m k n : ℕ) → k < 4 → n < 134217728 → ((m * 4 + k) * 134217728 + n) % 134217728 ≡ n
    rest m k n few short = omega (arith, few, short)

    kind_of : (m k n : ℕ) → k < 4 → n < 134217728 → ((m * 4 + k) * 134217728 + n) / 134217728 % 4 ≡ k
    kind_of m k n few short = omega (arith, few, short)

    time_part : (m k n : ℕ) → k < 4 → n < 134217728 → ((m * 4 + k) * 134217728 + n) / 134217728 / 4 ≡ m
    time_part m k n few short = omega (arith, few, short)

    number : key % 134217728 ≡ n
    number = rest shifted kind n few short

    kinds : key / 134217728 % 4 ≡ kind
    kinds = kind_of shifted kind n few short

    times : key / 134217728 / 4 ≡ shifted
    times = time_part shifted kind n few short

    back : (z : ℤ) → neg_ℤ (pos 17179869184) ≤ℤ z → pos (unsigned_abs (z +ℤ pos 17179869184)) -ℤ pos 17179869184 ≡ z
    back z h = omega (arith, ints)

-- the time of a key does not fall behind that of a lesser one
later_key : (m n : ℕ) → m ≤ n → key_time m ≤ℤ key_time n
later_key m n le = by (m / 134217728 / 4) (n / 134217728 / 4) (omega (arith, le))
  where
    by : (a b : ℕ) → a ≤ b → (pos a -ℤ pos 17179869184) ≤ℤ (pos b -ℤ pos 17179869184)
    by a b h = omega (arith, ints)

-- the times of a segment have room
time_in_room : (s : Seg) → HasNearEnds s → neg_ℤ (pos 17179869184) ≤ℤ time_in s
time_in_room s near = by (is_slanted s) s.a.x near.a.x
  where
    by : (b : Bool) (x : ℤ) → unsigned_abs x ≤ 2147483648 → neg_ℤ (pos 17179869184) ≤ℤ (cond b (pos 4 *ℤ x +ℤ pos 2) (pos 4 *ℤ x))
    by true x h = omega (arith, ints)
    by false x h = omega (arith, ints)

time_out_room : (s : Seg) → HasNearEnds s → neg_ℤ (pos 17179869184) ≤ℤ time_out s
time_out_room s near = by (is_slanted s) s.b.x near.b.x
  where
    by : (b : Bool) (x : ℤ) → unsigned_abs x ≤ 2147483648 → neg_ℤ (pos 17179869184) ≤ℤ (cond b (pos 4 *ℤ x +ℤ pos 2) (pos 4 *ℤ x +ℤ pos 3))
    by true x h = omega (arith, ints)
    by false x h = omega (arith, ints)

-- where one leads to the other, the one leaves when the other comes
leads_on : (segs : List Seg) (m n : ℕ) → leads segs m n ≡ true → time_out (seg_at segs m) ≡ time_in (seg_at segs n)
leads_on segs m n h =
    let s = seg_at segs m in
    let t = seg_at segs n in
    let one = and_parts (is_slanted s) (is_slanted t && same_point s.b t.a) h in
    let two = and_parts (is_slanted t) (same_point s.b t.a) one.1 in
    ap (λ (b : Bool). cond b (pos 4 *ℤ s.b.x +ℤ pos 2) (pos 4 *ℤ s.b.x +ℤ pos 3)) one.0
    ∙ ap (λ (p : Point). pos 4 *ℤ p.x +ℤ pos 2) (same_point-true s.b t.a two.1)
    ∙ ap (λ (b : Bool). cond b (pos 4 *ℤ t.a.x +ℤ pos 2) (pos 4 *ℤ t.a.x)) (sym two.0)

-- ---- all keys

module _ (segments : List LabelledSegment) (segs : List Seg) (same : length segs ≡ length segments) (near : All (λ s. HasNearEnds s) segs) (few : length segs < 134217728) where
  -- what the event of a key changes is of segments, and made at its time
  abbrev IsReal : ℕ → Type 0
  IsReal key = All (IsChangeAt segs (key_time key)) (changes (event_of key))

  real_from : (time : ℤ) (kind n : ℕ) → neg_ℤ (pos 17179869184) ≤ℤ time → kind < 4 → n < length segs → All (IsChangeAt segs time) (changes (event_at kind n)) → IsReal (key_of time kind n)
  real_from time kind n low small short all =
      let m = made time kind n low small (omega (arith, short, few)) in
      subst₂ (λ (e : Event) (z : ℤ). All (IsChangeAt segs z) (changes e)) (sym m.0) (sym m.1) all

  at_time_in : (n : ℕ) → n < length segs → IsChangeAt segs (time_in (seg_at segs n)) (coming n)
  at_time_in n short = record { known = short; timed = refl }

  at_time_out : (n : ℕ) → n < length segs → IsChangeAt segs (time_out (seg_at segs n)) (leaving n)
  at_time_out n short = record { known = short; timed = refl }

  both : (time : ℤ) (c d : Change) → IsChangeAt segs time c → IsChangeAt segs time d → All (IsChangeAt segs time) (c ∷ d ∷ [])
  both time c d h i = All-cons (IsChangeAt segs time) c (d ∷ []) h (All-cons (IsChangeAt segs time) d [] i (All-nil (IsChangeAt segs time)))

  one : (time : ℤ) (c : Change) → IsChangeAt segs time c → All (IsChangeAt segs time) (c ∷ [])
  one time c h = All-cons (IsChangeAt segs time) c [] h (All-nil (IsChangeAt segs time))

  -- a segment that another one follows is not the last one
  followed : (n : ℕ) (x : Bool) → is_followed segments n && x ≡ true → (n + 1 < length segs) × (x ≡ true)
  followed n x h =
      let parts = and_parts (is_followed segments n) x h in
      let inside = ltb-true (n + 1) (length segments) (and_parts (nat_lt (n + 1) (length segments)) (follows (segment_at segments n) (segment_at segments (n + 1))) parts.0).0 in
      (omega (arith, inside, same), parts.1)

  -- each key of a segment is real
  module _ (n : ℕ) (short : n < length segs) (key : ℕ) where
    abbrev s : Seg
    s = seg_at segs n

    abbrev before : Link
    before = link_before segments segs n

    abbrev link : Link
    link = link_at segments segs n

    is_near : HasNearEnds s
    is_near = near n no_seg short

    comes : Contains (coming_keys s n before link) key → IsReal key
    comes c = subst IsReal (from_neither before.onward link.back (key_of (time_in s) 1 n) key c)
        (real_from (time_in s) 1 n (time_in_room s is_near) (omega arith) short (one (time_in s) (coming n) (at_time_in n short)))

    leaves : Contains (leaving_keys s n before link) key → IsReal key
    leaves c = subst IsReal (from_neither link.onward before.back (key_of (time_out s) 0 n) key c)
        (real_from (time_out s) 0 n (time_out_room s is_near) (omega arith) short (one (time_out s) (leaving n) (at_time_out n short)))

    onward : Contains (onward_keys s n link) key → IsReal key
    onward c =
        let is = from_if link.onward (key_of (time_out s) 2 n) key c in
        let on = followed n (leads segs n (n + 1)) is.0 in
        subst IsReal is.1 (real_from (time_out s) 2 n (time_out_room s is_near) (omega arith) short
        (both (time_out s) (coming (n + 1)) (leaving n) (record { known = on.0; timed = leads_on segs n (n + 1) on.1 }) (at_time_out n short)))

    back : Contains (back_keys s n link) key → IsReal key
    back c =
        let is = from_if link.back (key_of (time_in s) 3 n) key c in
        let on = followed n (leads segs (n + 1) n) is.0 in
        subst IsReal is.1 (real_from (time_in s) 3 n (time_in_room s is_near) (omega arith) short
        (both (time_in s) (coming n) (leaving (n + 1)) (at_time_in n short) (record { known = on.0; timed = sym (leads_on segs (n + 1) n on.1) })))

    own_real : Contains (own_keys segments segs n) key → IsReal key
    own_real found =
        ⊎_elim (λ c. ⊎_elim (λ d. ⊎_elim comes leaves (Contains-append_cases (coming_keys s n before link) (leaving_keys s n before link) key d))
        onward (Contains-append_cases (coming_keys s n before link ++ leaving_keys s n before link) (onward_keys s n link) key c))
        back (Contains-append_cases ((coming_keys s n before link ++ leaving_keys s n before link) ++ onward_keys s n link) (back_keys s n link) key found)

  listed_real : All IsReal (listed_keys segments segs)
  listed_real = All-from_members IsReal (listed_keys segments segs) (λ key found.
      let w = Contains-from_flat_map (own_keys segments segs) (range_with_len 0 (length segs)) key found in
      own_real w.0 (below w.0 w.1) key w.2)
    where
      below : (n : ℕ) → Contains (range_with_len 0 (length segs)) n → n < length segs
      below n (k, inside, e) = let short : k < length segs = omega (arith, inside, length-range_with_len 0 (length segs)) in
          let same = sym (get_or-range_with_len 0 (length segs) k n short) ∙ e in omega (arith, same, short)

  module _ (keys : List ℕ) (moved : IsPermutation (listed_keys segments segs) keys) where
    -- a change of a key of a segment is made
    made_by : (n : ℕ) → n < length segs → (time : ℤ) (kind : ℕ) (c : Change) → neg_ℤ (pos 17179869184) ≤ℤ time → kind < 4 → Contains (changes (event_at kind n)) c → Contains (own_keys segments segs n) (key_of time kind n)
        → Contains (changes_of (map moment_of keys)) c
    made_by n short time kind c low small has own =
        let key = key_of time kind n in
        let m = made time kind n low small (omega (arith, short, few)) in
        Contains-flat_map (λ (e : Moment). e.changes) (map moment_of keys) (moment_of key) c
        (Contains-map moment_of keys key (Contains-permutation (listed_keys segments segs) keys key moved (Contains-flat_map (own_keys segments segs) (range_with_len 0 (length segs)) n key (in_range (length segs) n short) own)))
        (subst (λ (e : Event). Contains (changes e) c) (sym m.0) has)

    abbrev at : ℕ → Seg
    at n = seg_at segs n

    is_near_at : (n : ℕ) → n < length segs → HasNearEnds (at n)
    is_near_at n short = near n no_seg short

    -- the keys of a segment that are listed
    module _ (n : ℕ) (short : n < length segs) where
      abbrev cs : List ℕ
      cs = coming_keys (at n) n (link_before segments segs n) (link_at segments segs n)

      abbrev ls : List ℕ
      ls = leaving_keys (at n) n (link_before segments segs n) (link_at segments segs n)

      abbrev os : List ℕ
      os = onward_keys (at n) n (link_at segments segs n)

      abbrev bs : List ℕ
      bs = back_keys (at n) n (link_at segments segs n)

      in_coming : (key : ℕ) → Contains cs key → Contains (own_keys segments segs n) key
      in_coming key c = Contains-append_left ((cs ++ ls) ++ os) bs key (Contains-append_left (cs ++ ls) os key (Contains-append_left cs ls key c))

      in_leaving : (key : ℕ) → Contains ls key → Contains (own_keys segments segs n) key
      in_leaving key c = Contains-append_left ((cs ++ ls) ++ os) bs key (Contains-append_left (cs ++ ls) os key (Contains-append_right cs ls key c))

      in_onward : (key : ℕ) → Contains os key → Contains (own_keys segments segs n) key
      in_onward key c = Contains-append_left ((cs ++ ls) ++ os) bs key (Contains-append_right (cs ++ ls) os key c)

      in_back : (key : ℕ) → Contains bs key → Contains (own_keys segments segs n) key
      in_back key c = Contains-append_right ((cs ++ ls) ++ os) bs key c

      -- where the line passes onward or back
      passed_onward : (c : Change) → is_onward segments segs n ≡ true → Contains (coming (n + 1) ∷ leaving n ∷ []) c → Contains (changes_of (map moment_of keys)) c
      passed_onward c on has = made_by n short (time_out (at n)) 2 c (time_out_room (at n) (is_near_at n short)) (omega arith) has
          (in_onward (key_of (time_out (at n)) 2 n) (subst (λ b. Contains (cond b (key_of (time_out (at n)) 2 n ∷ []) []) (key_of (time_out (at n)) 2 n)) (sym on) (in_head (key_of (time_out (at n)) 2 n) [])))

      passed_back : (c : Change) → is_back segments segs n ≡ true → Contains (coming n ∷ leaving (n + 1) ∷ []) c → Contains (changes_of (map moment_of keys)) c
      passed_back c on has = made_by n short (time_in (at n)) 3 c (time_in_room (at n) (is_near_at n short)) (omega arith) has
          (in_back (key_of (time_in (at n)) 3 n) (subst (λ b. Contains (cond b (key_of (time_in (at n)) 3 n ∷ []) []) (key_of (time_in (at n)) 3 n)) (sym on) (in_head (key_of (time_in (at n)) 3 n) [])))

    -- a flag of the link before a number is one of the number before it
    before_of : (n : ℕ) (f : ℕ → Bool) → nat_lt 0 n && f (n - 1) ≡ true → (f (n - 1) ≡ true) × ((n - 1) + 1 ≡ n)
    before_of n f h = let parts = and_parts (nat_lt 0 n) (f (n - 1)) h in let more = ltb-true 0 n parts.0 in (parts.1, omega (arith, more))

    comes_somewhere : (n : ℕ) → n < length segs → Contains (changes_of (map moment_of keys)) (coming n)
    comes_somewhere n short = by (link_before segments segs n).onward refl (link_at segments segs n).back refl
      where
        key : ℕ
        key = key_of (time_in (at n)) 1 n

        by : (a : Bool) → (link_before segments segs n).onward ≡ a → (b : Bool) → (link_at segments segs n).back ≡ b → Contains (changes_of (map moment_of keys)) (coming n)
        by true e b f =
            let p = before_of n (is_onward segments segs) e in
            passed_onward (n - 1) (omega (arith, short)) (coming n) p.0 (subst (λ m. Contains (coming m ∷ leaving (n - 1) ∷ []) (coming n)) (sym p.1) (in_head (coming n) (leaving (n - 1) ∷ [])))
        by false e true f = passed_back n short (coming n) f (in_head (coming n) (leaving (n + 1) ∷ []))
        by false e false f = made_by n short (time_in (at n)) 1 (coming n) (time_in_room (at n) (is_near_at n short)) (omega arith) (in_head (coming n) [])
            (in_coming n short key (subst₂ (λ a b. Contains (cond a [] (cond b [] (key ∷ []))) key) (sym e) (sym f) (in_head key [])))

    leaves_somewhere : (n : ℕ) → n < length segs → Contains (changes_of (map moment_of keys)) (leaving n)
    leaves_somewhere n short = by (link_at segments segs n).onward refl (link_before segments segs n).back refl
      where
        key : ℕ
        key = key_of (time_out (at n)) 0 n

        by : (a : Bool) → (link_at segments segs n).onward ≡ a → (b : Bool) → (link_before segments segs n).back ≡ b → Contains (changes_of (map moment_of keys)) (leaving n)
        by true e b f = passed_onward n short (leaving n) e (in_tail (coming (n + 1)) (leaving n ∷ []) (leaving n) (in_head (leaving n) []))
        by false e true f =
            let p = before_of n (is_back segments segs) f in
            passed_back (n - 1) (omega (arith, short)) (leaving n) p.0
            (subst (λ m. Contains (coming (n - 1) ∷ leaving m ∷ []) (leaving n)) (sym p.1) (in_tail (coming (n - 1)) (leaving n ∷ []) (leaving n) (in_head (leaving n) [])))
        by false e false f = made_by n short (time_out (at n)) 0 (leaving n) (time_out_room (at n) (is_near_at n short)) (omega arith) (in_head (leaving n) [])
            (in_leaving n short key (subst₂ (λ a b. Contains (cond a [] (cond b [] (key ∷ []))) key) (sym e) (sym f) (in_head key [])))

    pub are_events : IsNonDecreasingBy (λ n. n) keys → AreEvents segs (map moment_of keys)
    are_events up = record {
      real = λ k d short.
          let inside : k < length keys = omega (arith, short, length-map keys moment_of) in
          subst (λ (e : Moment). All (IsChangeAt segs e.time) e.changes) (sym (get_or-map moment_of keys k 0 d inside)) (All-permutation IsReal (listed_keys segments segs) keys moved listed_real k 0 inside);
      come = comes_somewhere;
      leave = leaves_somewhere;
      ascend = λ i j d le short.
          let inside : j < length keys = omega (arith, short, length-map keys moment_of) in
          subst₂ (λ (e f : Moment). e.time ≤ℤ f.time) (sym (get_or-map moment_of keys i 0 d (omega (arith, le, inside)))) (sym (get_or-map moment_of keys j 0 d inside))
          (later_key (get_or keys i 0) (get_or keys j 0) (up i j 0 le inside));
    }
