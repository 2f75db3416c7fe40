-- The stack of the segments that have begun: what enters it, what leaves it, and that it is the stack of the line one half beyond.
use Rattle.std.proofs.Common.{◌≡◌, ◌≢◌, ◌⊎◌, inl, inr, ⊎_elim, ℕ, ◌+◌, ◌<◌, ◌≤◌, Bool, true, ◌&&◌, ◌||◌, List, [], ◌∷◌, length, map, drop, filter, get_or, All, AllPairs, Contains, ℤ, ◌<ℤ◌, ◌≤ℤ◌, refl, sym, ap, ◌∙◌, subst, arith}
use Rattle.std.proofs.lemmas.Int.{ints}
use Rattle.std.proofs.lemmas.Bool.{cases_order}
use Rattle.std.proofs.lemmas.List.{get_or_default, get_or-drop, length-drop}
use Rattle.std.proofs.lemmas.List.Elements.{All-nil, All-contains, All-filter}
use Rattle.std.proofs.lemmas.List.Sorted.{Contains-permutation, IsPermutation-sym}
use Rattle.lemmas.proofs.Signs.{Decides-int_lt, le_le_trans, le_lt_trans, lt_le_trans}
use Rattle.lemmas.specs.Sorting.{is_sorted_by, insert_by}
use Rattle.lemmas.proofs.Sorting.{insert_by-is_sorted, filter-is_sorted, is_sorted_by-agree, sorted_same, Contains-sort_by, Contains-from_sort_by}
use Rattle.tgap_model.specs.declared.segment.LabelledSegment.{LabelledSegment}
use Rattle.tgap_model.specs.Segment.{line_after}
use Rattle.tgap_model.specs.Partition.{AreApart, stack}
use Rattle.planar_stack.specs.Sweep.{EitherApart, crossed_after, higher_after, left_end, right_end, is_slanted, AreStarts, AreReady, no_segment, segment_at, crossed_at, higher_at, stays_at, IsActive}
use Rattle.lemmas.proofs.Members.{All-from_members, All-from_drop, Contains-filter, Contains-from_filter, Contains-map, Contains-from_map}
use Rattle.lemmas.proofs.Placing.{Contains-insert_by, Contains-from_insert_by}
use Rattle.planar_stack.proofs.Heights.{one_is_higher, higher_same, stack_is_sorted, stack_is_crossed}
use Rattle.planar_stack.proofs.Slabs.{order_after, after_is_rational}
use Rattle.planar_stack.proofs.Ends.{crossed_from_ends, ends_from_crossed, slanted_from_crossed}
use Rattle.planar_stack.proofs.Ordered.{order_at}

-- two starts of different numbers are apart
numbers_apart : (starts : List LabelledSegment) → AllPairs EitherApart starts → (m n : ℕ) → m < length starts → n < length starts → m ≢ n → EitherApart (segment_at starts m) (segment_at starts n)
numbers_apart starts pairs m n l k differ = by (cases_order m n)
  where
    by : (m ≡ n) ⊎ ((m < n) ⊎ (n < m)) → EitherApart (segment_at starts m) (segment_at starts n)
    by (inl e) = absurd (differ e)
    by (inr (inl less)) = pairs m n no_segment less k
    by (inr (inr more)) = ⊎_elim inr inl (pairs n m no_segment more l)

-- ---- the steps

-- nothing has begun
pub active_none : (v : ℤ) (starts : List LabelledSegment) → IsActive v starts 0 []
active_none v starts = record {
  within = omega arith;
  ordered = record { known = All-nil (λ n. n < length starts); crossed = All-nil (λ n. crossed_at v starts n ≡ true); sorted = refl };
  into = λ n c. absurd (omega (arith, c.1));
  back = λ n l e. absurd (omega (arith, l));
  left = λ n l. absurd (omega (arith, l));
}

-- those that end leave
pub active_out : (u v : ℤ) (starts : List LabelledSegment) (begun : ℕ) (found : List ℕ) → u ≤ℤ v → AllPairs EitherApart starts → IsActive u starts begun found → IsActive v starts begun (filter (stays_at v starts) found)
active_out u v starts begun found up apart a = record {
  within = a.within;
  ordered = record {
    known = All-filter stays (λ n. n < length starts) found a.ordered.known;
    crossed = All-from_members (λ n. crossed_at v starts n ≡ true) (filter stays found) (λ n c. (kept n c).1.1);
    sorted = is_sorted_by-agree Kept (higher_at u starts) (higher_at v starts) same (filter stays found) (All-from_members Kept (filter stays found) kept)
        ∙ filter-is_sorted (order_at u starts) stays found a.ordered.crossed a.ordered.sorted;
  };
  into = λ n c. a.into n (Contains-from_filter stays found n c).0;
  back = λ n l e.
      let ends = ends_from_crossed v (segment_at starts n) e in
      Contains-filter stays found n (a.back n l (crossed_from_ends u (segment_at starts n) (a.left n l) (le_lt_trans up ends.1))) ((Decides-int_lt v (right_end (segment_at starts n))).1 ends.1);
  left = λ n l. le_le_trans (a.left n l) up;
}
  where
    stays : ℕ → Bool
    stays = stays_at v starts

    -- it has a number, and both lines cross it
    Kept : ℕ → Type 0
    Kept n = (n < length starts) × ((crossed_at u starts n ≡ true) × (crossed_at v starts n ≡ true))

    kept : (n : ℕ) → Contains (filter stays found) n → Kept n
    kept n c =
        let here = Contains-from_filter stays found n c in
        let was = All-contains (λ m. crossed_at u starts m ≡ true) found n a.ordered.crossed here.0 in
        let s = segment_at starts n in (
          All-contains (λ m. m < length starts) found n a.ordered.known here.0,
          (was, crossed_from_ends v s (le_le_trans (ends_from_crossed u s was).0 up) ((Decides-int_lt v (right_end s)).0 here.1)),
        )

    same : (m n : ℕ) → Kept m → Kept n → higher_at v starts m n ≡ higher_at u starts m n
    same m n (km, (um, vm)) (kn, (un, vn)) = by (cases_order m n)
      where
        other : m ≢ n → higher_at v starts m n ≡ higher_at u starts m n
        other differ = higher_same (line_after u) (line_after v) (after_is_rational u) (after_is_rational v) (segment_at starts m) (segment_at starts n) um un vm vn (numbers_apart starts apart m n km kn differ)

        by : (m ≡ n) ⊎ ((m < n) ⊎ (n < m)) → higher_at v starts m n ≡ higher_at u starts m n
        by (inl e) = subst (λ k. higher_at v starts m k ≡ higher_at u starts m k) e ((order_at v starts).itself m vm ∙ sym ((order_at u starts).itself m um))
        by (inr (inl less)) = other (λ e. omega (arith, less, e))
        by (inr (inr more)) = other (λ e. omega (arith, more, e))

-- the next one that begins comes in
pub active_in : (v : ℤ) (starts : List LabelledSegment) (begun : ℕ) (found : List ℕ) → AllPairs EitherApart starts → IsActive v starts begun found → begun < length starts
    → left_end (segment_at starts begun) ≤ℤ v → v <ℤ right_end (segment_at starts begun) → IsActive v starts (begun + 1) (insert_by (higher_at v starts) begun found)
active_in v starts begun found apart a short begins ends = record {
  within = omega arith;
  ordered = record {
    known = All-from_members (λ n. n < length starts) after (λ n c. ⊎_elim (λ e. subst (λ m. m < length starts) e short) (All-contains (λ m. m < length starts) found n a.ordered.known) (Contains-from_insert_by (higher_at v starts) begun found n c));
    crossed = All-from_members (λ n. crossed_at v starts n ≡ true) after
        (λ n c. ⊎_elim (λ e. subst (λ m. crossed_at v starts m ≡ true) e crossed) (All-contains (λ m. crossed_at v starts m ≡ true) found n a.ordered.crossed) (Contains-from_insert_by (higher_at v starts) begun found n c));
    sorted = insert_by-is_sorted (higher_at v starts) begun found (All-from_members (λ m. (higher_at v starts begun m || higher_at v starts m begun) ≡ true) found decided) a.ordered.sorted;
  };
  into = λ n c. ⊎_elim (λ e. omega (arith, e)) (λ k. let l = a.into n k in omega (arith, l)) (Contains-from_insert_by (higher_at v starts) begun found n c);
  back = λ n l e. Contains-insert_by (higher_at v starts) begun found n (earlier n l (λ k. a.back n k e));
  left = λ n l. left n l (cases_order n begun);
}
  where
    after : List ℕ
    after = insert_by (higher_at v starts) begun found

    crossed : crossed_at v starts begun ≡ true
    crossed = crossed_from_ends v (segment_at starts begun) begins ends

    decided : (m : ℕ) → Contains found m → (higher_at v starts begun m || higher_at v starts m begun) ≡ true
    decided m c =
        let less = a.into m c in
        one_is_higher (line_after v) (after_is_rational v) (segment_at starts begun) (segment_at starts m) crossed (All-contains (λ k. crossed_at v starts k ≡ true) found m a.ordered.crossed c)
        (numbers_apart starts apart begun m short (omega (arith, less, a.within)) (λ e. omega (arith, less, e)))

    earlier : (n : ℕ) → n < begun + 1 → (n < begun → Contains found n) → (begun ≡ n) ⊎ Contains found n
    earlier n l h = by (cases_order n begun)
      where
        by : (n ≡ begun) ⊎ ((n < begun) ⊎ (begun < n)) → (begun ≡ n) ⊎ Contains found n
        by (inl e) = inl (sym e)
        by (inr (inl less)) = inr (h less)
        by (inr (inr more)) = absurd (omega (arith, l, more))

    left : (n : ℕ) → n < begun + 1 → (n ≡ begun) ⊎ ((n < begun) ⊎ (begun < n)) → left_end (segment_at starts n) ≤ℤ v
    left n l (inl e) = subst (λ m. left_end (segment_at starts m) ≤ℤ v) (sym e) begins
    left n l (inr (inl less)) = a.left n less
    left n l (inr (inr more)) = absurd (omega (arith, l, more))

-- the next one has ended, and stays out
pub active_past : (v : ℤ) (starts : List LabelledSegment) (begun : ℕ) (found : List ℕ) → IsActive v starts begun found → begun < length starts
    → left_end (segment_at starts begun) ≤ℤ v → right_end (segment_at starts begun) ≤ℤ v → IsActive v starts (begun + 1) found
active_past v starts begun found a short begins ends = record {
  within = omega arith;
  ordered = a.ordered;
  into = λ n c. let l = a.into n c in omega (arith, l);
  back = λ n l e. back n l e (cases_order n begun);
  left = λ n l. left n l (cases_order n begun);
}
  where
    back : (n : ℕ) → n < begun + 1 → crossed_at v starts n ≡ true → (n ≡ begun) ⊎ ((n < begun) ⊎ (begun < n)) → Contains found n
    back n l e (inl same) =
        let after = (ends_from_crossed v (segment_at starts begun) (subst (λ m. crossed_at v starts m ≡ true) same e)).1 in
        absurd (omega (arith, ints, after, ends))
    back n l e (inr (inl less)) = a.back n less e
    back n l e (inr (inr more)) = absurd (omega (arith, l, more))

    left : (n : ℕ) → n < begun + 1 → (n ≡ begun) ⊎ ((n < begun) ⊎ (begun < n)) → left_end (segment_at starts n) ≤ℤ v
    left n l (inl e) = subst (λ m. left_end (segment_at starts m) ≤ℤ v) (sym e) begins
    left n l (inr (inl less)) = a.left n less
    left n l (inr (inr more)) = absurd (omega (arith, l, more))

-- ---- the stack of a line

-- where all others begin later, all that cross the line are there
pub active_all : (v : ℤ) (starts : List LabelledSegment) (begun : ℕ) (found : List ℕ) → IsActive v starts begun found → All (λ s. v <ℤ left_end s) (drop begun starts)
    → (n : ℕ) → n < length starts → crossed_at v starts n ≡ true → Contains found n
active_all v starts begun found a later n short crossed = by (cases_order n begun)
  where
    late : begun ≤ n → ⊥
    late le =
        let after = All-from_drop (λ s. v <ℤ left_end s) begun n starts no_segment le short later in
        let before = (ends_from_crossed v (segment_at starts n) crossed).0 in
        omega (arith, ints, after, before)

    by : (n ≡ begun) ⊎ ((n < begun) ⊎ (begun < n)) → Contains found n
    by (inl e) = absurd (late (omega (arith, e)))
    by (inr (inl less)) = a.back n less crossed
    by (inr (inr more)) = absurd (late (omega (arith, more)))

-- numbers are sorted as what they stand for
sorted_map : {A B : Type 0} (before : B → B → Bool) (f : A → B) (xs : List A) → is_sorted_by before (map f xs) ≡ is_sorted_by (λ x y. before (f x) (f y)) xs
sorted_map before f [] = refl
sorted_map before f (x ∷ []) = refl
sorted_map before f (x ∷ y ∷ ys) = ap (λ b. before (f x) (f y) && b) (sorted_map before f (y ∷ ys))

-- Then it is the stack of the line one half beyond.
pub stack_from_active : (segments starts : List LabelledSegment) (begun : ℕ) (v : ℤ) (found : List ℕ) → AllPairs AreApart segments → AreStarts segments starts → IsActive v starts begun found
    → All (λ s. v <ℤ left_end s) (drop begun starts) → stack (line_after v) segments ≡ map (segment_at starts) found
stack_from_active segments starts begun v found apart r a later = sorted_same (order_after v) (stack (line_after v) segments) (map (segment_at starts) found)
    (stack_is_crossed (line_after v) segments) (All-from_members (λ s. crossed_after v s ≡ true) (map (segment_at starts) found) (λ s c. (member s c).1))
    (stack_is_sorted (line_after v) (after_is_rational v) segments apart) (sorted_map (higher_after v) (segment_at starts) found ∙ a.ordered.sorted) into (λ s c. back s (member s c))
  where
    -- a member of the list is a start that the line crosses
    member : (s : LabelledSegment) → Contains (map (segment_at starts) found) s → Contains starts s × (crossed_after v s ≡ true)
    member s c =
        let m = Contains-from_map (segment_at starts) found s c in
        let short = All-contains (λ n. n < length starts) found m.0 a.ordered.known m.1 in (
          (m.0, short, get_or_default starts m.0 s no_segment short ∙ m.2),
          subst (λ t. crossed_after v t ≡ true) m.2 (All-contains (λ n. crossed_at v starts n ≡ true) found m.0 a.ordered.crossed m.1),
        )

    back : (s : LabelledSegment) → Contains starts s × (crossed_after v s ≡ true) → Contains (stack (line_after v) segments) s
    back s (c, crossed) =
        let start = Contains-permutation starts (filter is_slanted segments) s (IsPermutation-sym (filter is_slanted segments) starts r.moved) c in
        Contains-sort_by (higher_after v) (filter (crossed_after v) segments) s (Contains-filter (crossed_after v) segments s (Contains-from_filter is_slanted segments s start).0 crossed)

    into : (s : LabelledSegment) → Contains (stack (line_after v) segments) s → Contains (map (segment_at starts) found) s
    into s c =
        let here = Contains-from_filter (crossed_after v) segments s (Contains-from_sort_by (higher_after v) (filter (crossed_after v) segments) s c) in
        at_start (Contains-permutation (filter is_slanted segments) starts s r.moved (Contains-filter is_slanted segments s here.0 (slanted_from_crossed v s here.1))) here.1
      where
        at_start : Contains starts s → crossed_after v s ≡ true → Contains (map (segment_at starts) found) s
        at_start (n, short, e) crossed =
            let same = get_or_default starts n no_segment s short ∙ e in
            subst (λ t. Contains (map (segment_at starts) found) t) same
            (Contains-map (segment_at starts) found n (active_all v starts begun found a later n short (subst (λ t. crossed_after v t ≡ true) (sym same) crossed)))

-- ---- the starts that are left

-- where the next one begins later, so do all others
pub all_later : (v : ℤ) (starts : List LabelledSegment) (begun : ℕ) (e : LabelledSegment) → AreReady starts → v <ℤ left_end (get_or starts begun e) → All (λ s. v <ℤ left_end s) (drop begun starts)
all_later v starts begun e r h k d short =
    let long : begun + k < length starts = omega (arith, length-drop begun starts) in
    let here = subst (λ s. v <ℤ left_end s) (get_or_default starts begun e d (omega arith)) h in
    subst (λ s. v <ℤ left_end s) (sym (get_or-drop begun starts k d)) (lt_le_trans here (r.ascend begun (begun + k) d (omega arith) long))
