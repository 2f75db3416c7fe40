-- The ends in their order, and the segments that leave a stack as theirs are reached.
use Rattle.std.proofs.Common.{◌≡◌, ◌≢◌, ◌⊎◌, inl, inr, ⊎_elim, ℕ, ◌+◌, ◌<◌, ◌≤◌, ◌==◌, Bool, true, false, cond, not, List, [], ◌∷◌, length, map, take, drop, filter, get_or, All, AllPairs, Contains, ℤ, ◌<ℤ◌, ◌≤ℤ◌, refl, sym, ap, ◌∙◌, subst, true≢false, arith}
use Rattle.std.specs.List.{range_with_len}
use Rattle.std.proofs.lemmas.Int.{ints}
use Rattle.std.proofs.lemmas.Bool.{cases_order}
use Rattle.std.proofs.lemmas.Bool.Decides.{Decides-eqb}
use Rattle.std.proofs.lemmas.List.{get_or_default, get_or-drop, length-drop, drop_more, drop_all, take-append-drop}
use Rattle.std.proofs.lemmas.List.FromFn.{get_or-map-range_with_len, length-map-range_with_len}
use Rattle.std.proofs.lemmas.List.Elements.{All-nil, All-contains, All-filter, All-weaker, All-more, Contains-append_cases, Contains-append_right}
use Rattle.std.proofs.lemmas.List.Sorted.{All-permutation, Contains-permutation}
use Rattle.lemmas.proofs.Signs.{Decides-int_lt, int_lt-from_le, le_le_trans, lt_le_trans}
use Rattle.lemmas.proofs.Sorting.{filter-is_sorted, AllPairs-permutation}
use Rattle.lemmas.proofs.Members.{in_tail, in_cases, All-from_drop, All-from_members, Contains-filter, Contains-from_filter}
use Rattle.tgap_model.specs.declared.segment.LabelledSegment.{LabelledSegment}
use Rattle.planar_stack.specs.declared.events.End.{End}
use Rattle.planar_stack.specs.Sweep.{left_end, right_end, AreReady, no_segment, segment_at, sides_at, crossed_at, stays_at, IsOrdered, IsActive, end_of, AreEnds, EndInOrder, HaveEnded, AreLeft, AreTouched}
use Rattle.tgap_model.specs.Partition.{agree_from}
use Rattle.planar_stack.proofs.Seams.{covered_from_agree}
use Rattle.planar_stack.proofs.Ends.{crossed_from_ends, ends_from_crossed}
use Rattle.planar_stack.proofs.Ordered.{order_at, filter_all, other_than, other_from}

-- ---- the ends of the starts

module _ (starts : List LabelledSegment) (ends : List End) (r : AreEnds starts ends) where
  -- as they come
  abbrev listed : List End
  listed = map (end_of starts) (range_with_len 0 (length starts))

  long : length listed ≡ length starts
  long = length-map-range_with_len (end_of starts) 0 (length starts)

  at_place : (k : ℕ) (d : End) → k < length listed → end_of starts k ≡ get_or listed k d
  at_place k d short = sym (get_or-map-range_with_len (end_of starts) 0 (length starts) k k d (omega (arith, short, long)) (omega arith))

  -- each is the end of the start of its number
  abbrev IsReal : End → Type 0
  IsReal e = (e.number < length starts) × (e ≡ end_of starts e.number)

  pub ends_real : All (λ e. (e.number < length starts) × (e ≡ end_of starts e.number)) ends
  ends_real = All-permutation IsReal listed ends r.moved (λ k d short. subst IsReal (at_place k d short) (omega (arith, short, long), refl))

  -- each start has one
  pub ends_all : (n : ℕ) → n < length starts → Contains ends (end_of starts n)
  ends_all n short =
      let inside : n < length listed = omega (arith, short, long) in
      Contains-permutation listed ends (end_of starts n) r.moved (n, inside, sym (at_place n (end_of starts n) inside))

  -- and no two have one number
  pub ends_once : AllPairs (λ e f. e.number ≢ f.number) ends
  ends_once = AllPairs-permutation (λ e f. e.number ≢ f.number) (λ e f h same. h (sym same)) listed ends r.moved
      (λ i j d less short same. let one = ap (λ e. e.number) (at_place i d (omega (arith, less, short))) ∙ same ∙ sym (ap (λ e. e.number) (at_place j d short)) in omega (arith, less, one))

  -- where the next one ends later, so do all others
  pub ends_later : (v : ℤ) (gone : ℕ) (e : End) → v <ℤ (get_or ends gone e).abscissa → All (λ f. v <ℤ f.abscissa) (drop gone ends)
  ends_later v gone e h k d short =
      let inside : gone + k < length ends = omega (arith, length-drop gone ends) in
      let here = subst (λ f. v <ℤ f.abscissa) (get_or_default ends gone e d (omega arith)) h in
      subst (λ f. v <ℤ f.abscissa) (sym (get_or-drop gone ends k d)) (lt_le_trans here (r.ascend gone (gone + k) d (omega arith) inside))

  -- ---- before a line

  -- From the stack of a line to the next abscissa, up to which no other segment begins.
  pub left_from_active : (u v : ℤ) (begun ended : ℕ) (found : List ℕ) → u ≤ℤ v → AreReady starts → IsActive u starts begun found → HaveEnded u ends ended → All (λ s. v ≤ℤ left_end s) (drop begun starts)
      → AreLeft v starts ends ended found
  left_from_active u v begun ended found up ready a h later = record {
    within = h.within;
    past = All-weaker (λ e. e.abscissa ≤ℤ u) (λ e. e.abscissa ≤ℤ v) (λ e le. le_le_trans le up) (take ended ends) h.past;
    into = λ n c.
        let ends_later_than_u = (ends_from_crossed u (segment_at starts n) (All-contains (λ m. crossed_at u starts m ≡ true) found n a.ordered.crossed c)).1 in
        ⊎_elim (λ k. let before = All-contains (λ e. e.abscissa ≤ℤ u) (take ended ends) (end_of starts n) h.past k in absurd (omega (arith, ints, before, ends_later_than_u))) (λ k. k)
        (Contains-append_cases (take ended ends) (drop ended ends) (end_of starts n)
        (subst (λ es. Contains es (end_of starts n)) (sym (take-append-drop ended ends)) (ends_all n (All-contains (λ m. m < length starts) found n a.ordered.known c))));
    back = λ e c le. member e (All-contains (λ f. (f.number < length starts) × (f ≡ end_of starts f.number)) ends e ends_real (inside e c)) (All-contains (λ f. u <ℤ f.abscissa) (drop ended ends) e h.ahead c) le;
  }
    where
      inside : (e : End) → Contains (drop ended ends) e → Contains ends e
      inside e c = subst (λ es. Contains es e) (take-append-drop ended ends) (Contains-append_right (take ended ends) (drop ended ends) e c)

      member : (e : End) → (e.number < length starts) × (e ≡ end_of starts e.number) → u <ℤ e.abscissa → e.abscissa ≤ℤ v → Contains found e.number
      member e (short, same) after le = by (cases_order e.number begun)
        where
          s : LabelledSegment
          s = segment_at starts e.number

          at_end : e.abscissa ≡ right_end s
          at_end = ap (λ f. f.abscissa) same

          ends_by : right_end s ≤ℤ v
          ends_by = subst (λ (z : ℤ). z ≤ℤ v) at_end le

          late : begun ≤ e.number → ⊥
          late l =
              let begins = All-from_drop (λ t. v ≤ℤ left_end t) begun e.number starts no_segment l short later in
              let slanted = ready.slanted e.number no_segment short in
              omega (arith, ints, begins, slanted, ends_by)

          by : (e.number ≡ begun) ⊎ ((e.number < begun) ⊎ (begun < e.number)) → Contains found e.number
          by (inl q) = absurd (late (omega (arith, q)))
          by (inr (inl less)) = a.back e.number less (crossed_from_ends u s (a.left e.number less) (subst (λ (z : ℤ). u <ℤ z) at_end after))
          by (inr (inr more)) = absurd (late (omega (arith, more)))

-- where the next of some ends in order is beyond an abscissa, so are all others
pub later_ends : (ends : List End) → EndInOrder ends → (v : ℤ) (gone : ℕ) (e : End) → v <ℤ (get_or ends gone e).abscissa → All (λ f. v <ℤ f.abscissa) (drop gone ends)
later_ends ends up v gone e h k d short =
    let inside : gone + k < length ends = omega (arith, length-drop gone ends) in
    let here = subst (λ f. v <ℤ f.abscissa) (get_or_default ends gone e d (omega arith)) h in
    subst (λ f. v <ℤ f.abscissa) (sym (get_or-drop gone ends k d)) (lt_le_trans here (up gone (gone + k) d (omega arith) inside))

-- where all have ended none is left
pub none_later : (v : ℤ) (ends : List End) (gone : ℕ) → length ends ≤ gone → All (λ f. v <ℤ f.abscissa) (drop gone ends)
none_later v ends gone le = subst (λ es. All (λ f. v <ℤ f.abscissa) es) (sym (drop_all gone ends le)) (All-nil (λ f. v <ℤ f.abscissa))

-- what is touched for a line is touched for a later one
pub touched_later : (u v : ℤ) (starts : List LabelledSegment) (found touched : List ℕ) → u ≤ℤ v → AreTouched u starts found touched → AreTouched v starts found touched
touched_later u v starts found touched up t = record {
  known = t.known;
  begun = All-weaker (λ n. left_end (segment_at starts n) ≤ℤ u) (λ n. left_end (segment_at starts n) ≤ℤ v) (λ n le. le_le_trans le up) touched t.begun;
  covered = t.covered;
}

-- where all faces agree nothing has to be touched
pub touched_none : (v : ℤ) (starts : List LabelledSegment) (found : List ℕ) → agree_from 0 (map (sides_at starts) found) ≡ true → AreTouched v starts found []
touched_none v starts found agree = record {
  known = All-nil (λ n. n < length starts);
  begun = All-nil (λ n. left_end (segment_at starts n) ≤ℤ v);
  covered = covered_from_agree (sides_at starts) 0 found agree;
}

-- ---- the loop

-- a test that one number does not pass is not changed by taking the number away
filter_other : (p : ℕ → Bool) (n : ℕ) → p n ≡ false → (xs : List ℕ) → filter p (filter (other_than n) xs) ≡ filter p xs
filter_other p n h [] = refl
filter_other p n h (x ∷ xs) = by (x == n) refl (filter_other p n h xs)
  where
    by : (b : Bool) → (x == n) ≡ b → filter p (filter (other_than n) xs) ≡ filter p xs → filter p (cond (not b) (x ∷ filter (other_than n) xs) (filter (other_than n) xs)) ≡ cond (p x) (x ∷ filter p xs) (filter p xs)
    by true e rest = rest ∙ sym (ap (λ b. cond b (x ∷ filter p xs) (filter p xs)) (ap p ((Decides-eqb x n).0 e) ∙ h))
    by false e rest = ap (λ ys. cond (p x) (x ∷ ys) ys) rest

-- The segments whose ends are reached have left the stack.
pub record IsLeaving (u v : ℤ) (starts : List LabelledSegment) (ends : List End) (gone : ℕ) (old found marks : List ℕ) : Type 0 where
  pub ordered : IsOrdered u starts found
  pub left : AreLeft v starts ends gone found
  pub same : filter (stays_at v starts) found ≡ filter (stays_at v starts) old
  pub touched : AreTouched u starts found marks

module _ (u v : ℤ) (starts : List LabelledSegment) (ends : List End) (r : AreEnds starts ends) (gone : ℕ) (old found marks : List ℕ) (s : IsLeaving u v starts ends gone old found marks) where
  module _ (d : End) (short : gone < length ends) (reached : (get_or ends gone d).abscissa ≤ℤ v) where
    -- it
    abbrev pub e : End
    e = get_or ends gone d

    front : drop gone ends ≡ e ∷ drop (gone + 1) ends
    front = drop_more ends gone d short

    real : (e.number < length starts) × (e ≡ end_of starts e.number)
    real = ends_real starts ends r gone d short

    -- what ends next is in the stack
    pub leaving_member : Contains found e.number
    leaving_member = s.left.back e (subst (λ es. Contains es e) (sym front) (0, omega arith, refl)) reached

    pub leaving_next : (after : List ℕ) → AreTouched u starts (filter (other_than e.number) found) after → IsLeaving u v starts ends (gone + 1) old (filter (other_than e.number) found) after
    leaving_next after t = record {
      ordered = record {
        known = All-filter (other_than e.number) (λ n. n < length starts) found s.ordered.known;
        crossed = All-filter (other_than e.number) (λ n. crossed_at u starts n ≡ true) found s.ordered.crossed;
        sorted = filter-is_sorted (order_at u starts) (other_than e.number) found s.ordered.crossed s.ordered.sorted;
      };
      left = record {
        within = omega arith;
        past = All-more (λ f. f.abscissa ≤ℤ v) ends gone d short s.left.past reached;
        into = λ n c. into n (Contains-from_filter (other_than e.number) found n c);
        back = λ f c le. Contains-filter (other_than e.number) found f.number (s.left.back f (subst (λ es. Contains es f) (sym front) (in_tail e (drop (gone + 1) ends) f c)) le) (other_from e.number f.number (differs f c));
      };
      same = filter_other (stays_at v starts) e.number (int_lt-from_le (subst (λ (z : ℤ). z ≤ℤ v) (ap (λ f. f.abscissa) real.1) reached)) found ∙ s.same;
      touched = t;
    }
      where
        into : (n : ℕ) → Contains found n × (other_than e.number n ≡ true) → Contains (drop (gone + 1) ends) (end_of starts n)
        into n (c, other) = ⊎_elim (λ same. absurd (true≢false (sym other ∙ ap not ((Decides-eqb n e.number).1 (sym (ap (λ f. f.number) same)))))) (λ k. k)
            (in_cases e (drop (gone + 1) ends) (end_of starts n) (subst (λ es. Contains es (end_of starts n)) front (s.left.into n c)))

        differs : (f : End) → Contains (drop (gone + 1) ends) f → f.number ≢ e.number
        differs f (k, l, at) same =
            let inside : gone + 1 + k < length ends = omega (arith, l, length-drop (gone + 1) ends) in
            let there = get_or_default ends (gone + 1 + k) d f inside ∙ sym (get_or-drop (gone + 1) ends k f) ∙ at in
            ends_once starts ends r gone (gone + 1 + k) d (omega arith) inside (sym same ∙ sym (ap (λ g. g.number) there))

  -- the others stay
  pub leaving_end : All (λ f. v <ℤ f.abscissa) (drop gone ends) → (found ≡ filter (stays_at v starts) old) × HaveEnded v ends gone
  leaving_end ahead = (
    sym (filter_all (stays_at v starts) found (All-from_members (λ n. stays_at v starts n ≡ true) found
        (λ n c. (Decides-int_lt v (right_end (segment_at starts n))).1 (All-contains (λ f. v <ℤ f.abscissa) (drop gone ends) (end_of starts n) ahead (s.left.into n c))))) ∙ s.same,
    record { within = s.left.within; past = s.left.past; ahead = ahead },
  )
