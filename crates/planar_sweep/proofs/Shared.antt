-- Marks that may meet by the tests of neighbours in the order of the points: any two of one point may. So ends of different segments at one
-- point may share it: they are joined to each other, or each has a mark of its own.
use Rattle.std.proofs.Common.{◌≡◌, ◌≢◌, ◌⊎◌, inl, inr, ℕ, ◌+◌, ◌-◌, ◌<◌, ◌≤◌, Bool, true, false, not, nat_lt, ◌&&◌, ◌||◌, List, length, map, filter, get_or, All, Contains, ℤ, ◌≤ℤ◌, refl, sym, ap, ◌∙◌, subst, subst₂, true≢false, arith}
use Rattle.std.specs.List.{range_with_len}
use Rattle.std.proofs.lemmas.Bool.{and_parts, and_from, or_left, or_right, or_parts, not-true, not_from_false, ltb-true, lt-ltb, cases_Bool, cases_order}
use Rattle.std.proofs.lemmas.List.{get_or_default}
use Rattle.std.proofs.lemmas.List.Elements.{All-append, All-filter, Contains-append_left, Contains-append_right}
use Rattle.std.proofs.lemmas.List.Sorted.{All-permutation, Contains-permutation}
use Rattle.lemmas.proofs.Members.{Contains-filter}
use Rattle.lemmas.proofs.Signs.{same_from_le}
use Rattle.tgap_model.specs.declared.segment.LabelledSegment.{LabelledSegment}
use Rattle.tgap_model.specs.Base.{same_point}
use Rattle.tgap_model.specs.Partition.{follows}
use Rattle.tgap_model.proofs.Points.{same_point-true}
use Rattle.planar_sweep.specs.declared.marks.Mark.{Mark}
use Rattle.planar_sweep.specs.Ends.{segment_at, point_key, goes_on, front_mark, first_mark, last_mark, is_loose, listed_marks, AreMarks, joins, may_share, may_meet, IsFair, EndsAgree}
use Rattle.planar_sweep.proofs.EventFacts.{listed_each, listed_has}

swapped : (x y : Bool) → x || y ≡ true → y || x ≡ true
swapped true true e = refl
swapped true false e = refl
swapped false true e = refl
swapped false false e = e

turned_tests : (a b x y : Bool) → (a && b) || (x || y) ≡ true → (b && a) || (y || x) ≡ true
turned_tests true true x y e = refl
turned_tests true false x y e = swapped x y e
turned_tests false true x y e = swapped x y e
turned_tests false false x y e = swapped x y e

pub share_turned : (segments : List LabelledSegment) (e f : Mark) → may_share segments e f ≡ true → may_share segments f e ≡ true
share_turned segments e f = turned_tests e.free f.free (joins segments e f) (joins segments f e)

-- Two marks that may meet: neither is joint, and their ends may share a point.
record Meet (segments : List LabelledSegment) (e f : Mark) : Type 0 where
  own : e.joint ≡ false
  other : f.joint ≡ false
  share : may_share segments e f ≡ true

meet_parts : (segments : List LabelledSegment) (e f : Mark) → may_meet segments e f ≡ true → Meet segments e f
meet_parts segments e f h =
    let both = and_parts (not (e.joint || f.joint)) (may_share segments e f) h in
    let own = or_parts e.joint f.joint (not-true (e.joint || f.joint) both.0) in
    record { own = own.0; other = own.1; share = both.1 }

meet_turned : (segments : List LabelledSegment) (e f : Mark) → Meet segments e f → Meet segments f e
meet_turned segments e f m = record { own = m.other; other = m.own; share = share_turned segments e f m.share }

-- The segment after the one of a number goes on with it.
record GoesOn (segments : List LabelledSegment) (n : ℕ) : Type 0 where
  more : n + 1 < length segments
  follows : follows (segment_at segments n) (segment_at segments (n + 1)) ≡ true
  there : (segment_at segments n).segment.b ≡ (segment_at segments (n + 1)).segment.a

goes_on_facts : (segments : List LabelledSegment) (n : ℕ) → goes_on segments n ≡ true → GoesOn segments n
goes_on_facts segments n h =
    let s = segment_at segments n in
    let t = segment_at segments (n + 1) in
    let parts = and_parts (nat_lt (n + 1) (length segments)) (follows s t && same_point s.segment.b t.segment.a) h in
    let rest = and_parts (follows s t) (same_point s.segment.b t.segment.a) parts.1 in
    record { more = ltb-true (n + 1) (length segments) parts.0; follows = rest.0; there = same_point-true s.segment.b t.segment.a rest.1 }

-- where one goes on with the other, the two ends there may share their point
joined_share : (segments : List LabelledSegment) (m n : ℕ) → goes_on segments n ≡ true → m ≡ n + 1 → may_share segments (last_mark segments n) (first_mark segments m) ≡ true
joined_share segments m n on one = or_right ((segment_at segments n).ends && (segment_at segments m).starts) (follows (segment_at segments n) (segment_at segments m) || false)
    (or_left (follows (segment_at segments n) (segment_at segments m)) false (subst (λ (k : ℕ). follows (segment_at segments n) (segment_at segments k) ≡ true) (sym one) (goes_on_facts segments n on).follows))

-- and the mark of the first end there is joint
front_joint : (segments : List LabelledSegment) (n : ℕ) → goes_on segments n ≡ true → (front_mark segments (n + 1)).joint ≡ true
front_joint segments n on =
    let back : n ≡ (n + 1) - 1 = omega arith in
    and_from (nat_lt 0 (n + 1)) (goes_on segments ((n + 1) - 1)) (lt-ltb 0 (n + 1) (omega arith)) (subst (λ (k : ℕ). goes_on segments k ≡ true) back on)

module _ (segments : List LabelledSegment) (marks : List Mark) (r : AreMarks segments marks) where
  abbrev fronts : List Mark
  fronts = map (front_mark segments) (range_with_len 0 (length segments))

  abbrev lasts : List Mark
  lasts = map (last_mark segments) (range_with_len 0 (length segments))

  -- the numbers are those of segments
  pub marks_known : All (λ m. m.number < length segments) marks
  marks_known = All-permutation (λ m. m.number < length segments) (listed_marks segments) marks r.moved
      (All-append (λ m. m.number < length segments) fronts (filter (is_loose segments) lasts)
      (listed_each (λ m. m.number) (front_mark segments) (λ n. refl) (length segments) (λ m. m.number < length segments) (λ n short. short))
      (All-filter (is_loose segments) (λ m. m.number < length segments) lasts
      (listed_each (λ m. m.number) (last_mark segments) (λ n. refl) (length segments) (λ m. m.number < length segments) (λ n short. short))))

  has_front : (n : ℕ) → n < length segments → Contains marks (front_mark segments n)
  has_front n short = Contains-permutation (listed_marks segments) marks (front_mark segments n) r.moved
      (Contains-append_left fronts (filter (is_loose segments) lasts) (front_mark segments n) (listed_has (λ m. m.number) (front_mark segments) (λ k. refl) (length segments) n short))

  has_last : (n : ℕ) → n < length segments → goes_on segments n ≡ false → Contains marks (last_mark segments n)
  has_last n short off = Contains-permutation (listed_marks segments) marks (last_mark segments n) r.moved
      (Contains-append_right fronts (filter (is_loose segments) lasts) (last_mark segments n)
      (Contains-filter (is_loose segments) lasts (last_mark segments n) (listed_has (λ m. m.number) (last_mark segments) (λ k. refl) (length segments) n short) (not_from_false (goes_on segments n) off)))

  module _ (fair : (i : ℕ) → i < length marks → IsFair segments marks i) where
    meets_next : (i : ℕ) (d : Mark) → i + 1 < length marks → (get_or marks i d).key ≡ (get_or marks (i + 1) d).key → Meet segments (get_or marks i d) (get_or marks (i + 1) d)
    meets_next i d short same = meet_parts segments (get_or marks i d) (get_or marks (i + 1) d) ((fair i (omega (arith, short))).next d short same)

    -- what stands between two marks of one point is of that point
    between : (i k j : ℕ) (d : Mark) → i ≤ k → k ≤ j → j < length marks → (get_or marks i d).key ≡ (get_or marks j d).key → (get_or marks i d).key ≡ (get_or marks k d).key
    between i k j d up on short same = same_from_le (r.ascend i k d up (omega (arith, on, short))) (subst (λ (z : ℤ). (get_or marks k d).key ≤ℤ z) (sym same) (r.ascend k j d on short))

    -- where there is another two places on, the first of them is free and not joint
    first_meets : (i j : ℕ) (d : Mark) → i + 2 ≤ j → j < length marks → (get_or marks i d).key ≡ (get_or marks j d).key → ((get_or marks i d).free ≡ true) × ((get_or marks i d).joint ≡ false)
    first_meets i j d le short same = (
      (and_parts (get_or marks i d).free (get_or marks (i + 2) d).free ((fair i (omega (arith, le, short))).after d (omega (arith, le, short)) (between i (i + 2) j d (omega arith) le short same))).0,
      (meets_next i d (omega (arith, le, short)) (between i (i + 1) j d (omega arith) (omega (arith, le)) short same)).own,
    )

    -- and so is the last of them
    last_meets : (i k : ℕ) (d : Mark) → i ≤ k → k + 2 < length marks → (get_or marks i d).key ≡ (get_or marks (k + 2) d).key
        → ((get_or marks (k + 2) d).free ≡ true) × ((get_or marks (k + 2) d).joint ≡ false)
    last_meets i k d le short same =
        let here : (k + 1) + 1 ≡ k + 2 = omega arith in
        let near : (get_or marks k d).key ≡ (get_or marks (k + 2) d).key = sym (between i k (k + 2) d le (omega arith) short same) ∙ same in
        let next : (get_or marks (k + 1) d).key ≡ (get_or marks ((k + 1) + 1) d).key =
        sym (between i (k + 1) (k + 2) d (omega (arith, le)) (omega arith) short same) ∙ same ∙ ap (λ (n : ℕ). (get_or marks n d).key) (sym here) in (
          (and_parts (get_or marks k d).free (get_or marks (k + 2) d).free ((fair k (omega (arith, short))).after d short near)).1,
          subst (λ (n : ℕ). (get_or marks n d).joint ≡ false) here (meets_next (k + 1) d (omega (arith, short)) next).other,
        )

    all_meet : (i j : ℕ) (d : Mark) → i < j → j < length marks → (get_or marks i d).key ≡ (get_or marks j d).key → Meet segments (get_or marks i d) (get_or marks j d)
    all_meet i j d less short same = by (cases_order j (i + 1))
      where
        far : i + 1 < j → Meet segments (get_or marks i d) (get_or marks j d)
        far more =
            let k : (j - 2) + 2 ≡ j = omega (arith, more) in
            let first = first_meets i j d (omega (arith, more)) short same in
            let last = subst (λ (n : ℕ). (get_or marks i d).key ≡ (get_or marks n d).key → ((get_or marks n d).free ≡ true) × ((get_or marks n d).joint ≡ false)) k
            (last_meets i (j - 2) d (omega (arith, more)) (omega (arith, more, short))) same in
            record {
              own = first.1;
              other = last.1;
              share = or_left ((get_or marks i d).free && (get_or marks j d).free) (joins segments (get_or marks i d) (get_or marks j d) || joins segments (get_or marks j d) (get_or marks i d))
                  (and_from (get_or marks i d).free (get_or marks j d).free first.0 last.0);
            }

        by : (j ≡ i + 1) ⊎ ((j < i + 1) ⊎ (i + 1 < j)) → Meet segments (get_or marks i d) (get_or marks j d)
        by (inl e) = subst (λ n. Meet segments (get_or marks i d) (get_or marks n d)) (sym e) (meets_next i d (omega (arith, e, short)) (same ∙ ap (λ n. (get_or marks n d).key) e))
        by (inr (inl early)) = absurd (omega (arith, early, less))
        by (inr (inr more)) = far more

    -- any two marks of one point, which stand at two places
    meet : (e f : Mark) → Contains marks e → Contains marks f → e ≢ f → e.key ≡ f.key → Meet segments e f
    meet e f (i, p, at_i) (j, q, at_j) differ same = by (cases_order i j)
      where
        at_other : get_or marks j e ≡ f
        at_other = get_or_default marks j e f q ∙ at_j

        by : (i ≡ j) ⊎ ((i < j) ⊎ (j < i)) → Meet segments e f
        by (inl one) = absurd (differ (sym at_i ∙ ap (λ k. get_or marks k e) one ∙ at_other))
        by (inr (inl less)) = subst₂ (λ (m k : Mark). Meet segments m k) at_i at_other (all_meet i j e less q (ap (λ (m : Mark). m.key) at_i ∙ same ∙ sym (ap (λ (m : Mark). m.key) at_other)))
        by (inr (inr more)) = meet_turned segments f e (subst₂ (λ (m k : Mark). Meet segments m k) at_other at_i
            (all_meet j i e more p (ap (λ (m : Mark). m.key) at_other ∙ sym same ∙ sym (ap (λ (m : Mark). m.key) at_i))))

    -- a joint mark meets no other
    joint_alone : (n : ℕ) (f : Mark) → goes_on segments n ≡ true → Contains marks f → front_mark segments (n + 1) ≢ f → point_key (segment_at segments n).segment.b ≡ f.key → ⊥
    joint_alone n f on there differ same =
        let facts = goes_on_facts segments n on in
        let m = meet (front_mark segments (n + 1)) f (has_front (n + 1) facts.more) there differ (sym (ap point_key facts.there) ∙ same) in
        true≢false (sym (front_joint segments n on) ∙ m.own)

    -- two first ends
    share_aa : (m n : ℕ) → m < length segments → n < length segments → m ≢ n → (segment_at segments m).segment.a ≡ (segment_at segments n).segment.a
        → may_share segments (first_mark segments m) (first_mark segments n) ≡ true
    share_aa m n known_m known_n differ e = (meet (front_mark segments m) (front_mark segments n) (has_front m known_m) (has_front n known_n) (λ one. differ (ap (λ (k : Mark). k.number) one)) (ap point_key e)).share

    -- a last end and a first end
    share_ba : (m n : ℕ) → m < length segments → n < length segments → m ≢ n → (segment_at segments m).segment.b ≡ (segment_at segments n).segment.a
        → may_share segments (last_mark segments m) (first_mark segments n) ≡ true
    share_ba m n known_m known_n differ e = by (cases_Bool (goes_on segments m)) (cases_order n (m + 1))
      where
        apart : goes_on segments m ≡ true → n ≢ m + 1 → ⊥
        apart on far = joint_alone m (front_mark segments n) on (has_front n known_n) (λ one. far (sym (ap (λ (k : Mark). k.number) one))) (ap point_key e)

        by : (goes_on segments m ≡ true) ⊎ (goes_on segments m ≡ false) → (n ≡ m + 1) ⊎ ((n < m + 1) ⊎ (m + 1 < n)) → may_share segments (last_mark segments m) (first_mark segments n) ≡ true
        by (inl on) (inl one) = joined_share segments n m on one
        by (inl on) (inr (inl less)) = absurd (apart on (λ one. omega (arith, one, less)))
        by (inl on) (inr (inr more)) = absurd (apart on (λ one. omega (arith, one, more)))
        by (inr off) o = (meet (last_mark segments m) (front_mark segments n) (has_last m known_m off) (has_front n known_n) (λ one. differ (ap (λ (k : Mark). k.number) one)) (ap point_key e)).share

    -- two last ends
    share_bb : (m n : ℕ) → m < length segments → n < length segments → m ≢ n → (segment_at segments m).segment.b ≡ (segment_at segments n).segment.b
        → may_share segments (last_mark segments m) (last_mark segments n) ≡ true
    share_bb m n known_m known_n differ e = by (cases_Bool (goes_on segments m)) (cases_Bool (goes_on segments n))
      where
        kinds : (k l : ℕ) → front_mark segments k ≢ last_mark segments l
        kinds k l one = true≢false (sym (ap (λ (x : Mark). x.last) one))

        by : (goes_on segments m ≡ true) ⊎ (goes_on segments m ≡ false) → (goes_on segments n ≡ true) ⊎ (goes_on segments n ≡ false) → may_share segments (last_mark segments m) (last_mark segments n) ≡ true
        by (inl on) (inl too) =
            let facts = goes_on_facts segments n too in
            absurd (joint_alone m (front_mark segments (n + 1)) on (has_front (n + 1) facts.more) (λ one. differ (next_same (ap (λ (k : Mark). k.number) one))) (ap point_key (e ∙ facts.there)))
          where
            next_same : m + 1 ≡ n + 1 → m ≡ n
            next_same h = omega (arith, h)
        by (inl on) (inr off) = absurd (joint_alone m (last_mark segments n) on (has_last n known_n off) (kinds (m + 1) n) (ap point_key e))
        by (inr off) (inl on) = absurd (joint_alone n (last_mark segments m) on (has_last m known_m off) (kinds (n + 1) m) (ap point_key (sym e)))
        by (inr off) (inr out) = (meet (last_mark segments m) (last_mark segments n) (has_last m known_m off) (has_last n known_n out) (λ one. differ (ap (λ (k : Mark). k.number) one)) (ap point_key e)).share

    pub agree : EndsAgree segments
    agree m n known_m known_n differ = (
      share_aa m n known_m known_n differ,
      λ e. share_turned segments (last_mark segments n) (first_mark segments m) (share_ba n m known_n known_m (λ one. differ (sym one)) (sym e)),
      share_ba m n known_m known_n differ,
      share_bb m n known_m known_n differ,
    )
