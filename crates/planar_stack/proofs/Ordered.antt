-- The stack as numbers of starts: the place of a segment in it, and what comes in and goes out there.
use Rattle.std.proofs.Common.{◌≡◌, ◌≢◌, ◌⊎◌, inl, inr, ⊎_elim, ℕ, zero, suc, ◌+◌, ◌-◌, ◌<◌, ◌==◌, Bool, true, false, cond, not, List, [], ◌∷◌, ◌++◌, length, map, take, drop, filter, get_or, All, AllPairs, Contains, ℤ, ◌≤ℤ◌, refl, sym, ap, ◌∙◌, subst, true≢false, arith}
use Rattle.std.specs.List.{insert, remove}
use Rattle.std.proofs.lemmas.Bool.{cases_order, false_from_ne_true}
use Rattle.std.proofs.lemmas.Bool.Decides.{Decides-eqb}
use Rattle.std.proofs.lemmas.List.{get_or_default, drop_more}
use Rattle.std.proofs.lemmas.List.Elements.{All-nil, All-cons, All-append, All-filter, All-take, All-drop, Contains-append_left, Contains-append_right}
use Rattle.lemmas.specs.Sorting.{insert_by, IsStrictOrderOn}
use Rattle.lemmas.proofs.Sorting.{sorted_pairs}
use Rattle.lemmas.proofs.Placing.{insert-place}
use Rattle.tgap_model.specs.declared.segment.LabelledSegment.{LabelledSegment}
use Rattle.grid_geo.specs.Evidence.{face_above}
use Rattle.planar_stack.specs.Sweep.{left_end, segment_at, sides_at, crossed_at, higher_at, differing, IsOrdered, IsPlace, AreTouched}
use Rattle.planar_stack.proofs.Slabs.{order_after}
use Rattle.planar_stack.proofs.Seams.{covered_more, covered_insert, covered_remove}
use Rattle.planar_stack.proofs.Ends.{ends_from_crossed}

-- the order of heights, by numbers
pub order_at : (v : ℤ) (starts : List LabelledSegment) → IsStrictOrderOn (λ n. crossed_at v starts n ≡ true) (higher_at v starts)
order_at v starts = record {
  itself = λ n h. (order_after v).itself (segment_at starts n) h;
  passes = λ m n k hm hn hk. (order_after v).passes (segment_at starts m) (segment_at starts n) (segment_at starts k) hm hn hk;
}

-- a list stays where all pass
pub filter_all : {A : Type 0} (p : A → Bool) (xs : List A) → All (λ x. p x ≡ true) xs → filter p xs ≡ xs
filter_all p [] h = refl
filter_all p (x ∷ xs) h = ap (λ b. cond b (x ∷ filter p xs) (filter p xs)) (h 0 x (omega arith)) ∙ ap (λ ys. x ∷ ys) (filter_all p xs (λ n d l. h (suc n) d (omega (arith, l))))

abbrev pub other_than : ℕ → ℕ → Bool
other_than n m = not (m == n)

pub other_from : (n m : ℕ) → m ≢ n → other_than n m ≡ true
other_from n m h = ap not (false_from_ne_true (m == n) (λ e. h ((Decides-eqb m n).0 e)))

-- of different numbers, what is removed at a place is the number there
remove_is_filter : (n : ℕ) (xs : List ℕ) (k d : ℕ) → k < length xs → get_or xs k d ≡ n → AllPairs (λ a b. a ≢ b) xs → remove xs k ≡ filter (other_than n) xs
remove_is_filter n [] k d short at pairs = absurd (omega arith)
remove_is_filter n (x ∷ xs) zero d short at pairs =
    sym (ap (λ b. cond (not b) (x ∷ filter (other_than n) xs) (filter (other_than n) xs)) ((Decides-eqb x n).1 at)
    ∙ filter_all (other_than n) xs (λ i e l. other_from n (get_or xs i e) (λ same. pairs 0 (suc i) e (omega arith) (omega (arith, l)) (at ∙ sym same))))
remove_is_filter n (x ∷ xs) (suc k) d short at pairs =
    let differ = other_from n x (λ same. pairs 0 (suc k) d (omega arith) short (same ∙ sym at)) in
    ap (λ ys. x ∷ ys) (remove_is_filter n xs k d (omega arith) at (λ i j e less l. pairs (suc i) (suc j) e (omega (arith, less)) (omega (arith, l))))
    ∙ sym (ap (λ b. cond b (x ∷ filter (other_than n) xs) (filter (other_than n) xs)) differ)

module _ (v : ℤ) (starts : List LabelledSegment) (n : ℕ) (found : List ℕ) (place : ℕ) (p : IsPlace v starts n found place) where
  -- what comes in at the place comes in by its height
  pub place-insert : insert found place n ≡ insert_by (higher_at v starts) n found
  place-insert = insert-place (higher_at v starts) n found place p.within p.above p.below

  module _ (o : IsOrdered v starts found) (member : Contains found n) where
    -- the numbers are all different
    differ : AllPairs (λ a b. a ≢ b) found
    differ i j d less short e =
        let before = sorted_pairs (order_at v starts) found o.crossed o.sorted i j d less short in
        true≢false (sym before ∙ subst (λ m. higher_at v starts (get_or found i d) m ≡ false) e ((order_at v starts).itself (get_or found i d) (o.crossed i d (omega arith))))

    -- a member stands just above its place
    pub member_above : (0 < place) × ((d : ℕ) → get_or found (place - 1) d ≡ n)
    member_above = by member
      where
        by : Contains found n → (0 < place) × ((d : ℕ) → get_or found (place - 1) d ≡ n)
        by (k, short, at) = at_last (cases_order (k + 1) place)
          where
            at_k : get_or found k 0 ≡ n
            at_k = get_or_default found k 0 n short ∙ at

            itself : higher_at v starts n (get_or found k 0) ≡ false
            itself = subst (λ m. higher_at v starts n m ≡ false) (sym at_k) ((order_at v starts).itself n (subst (λ m. crossed_at v starts m ≡ true) at_k (o.crossed k 0 short)))

            at_last : (k + 1 ≡ place) ⊎ ((k + 1 < place) ⊎ (place < k + 1)) → (0 < place) × ((d : ℕ) → get_or found (place - 1) d ≡ n)
            at_last (inl e) =
                let here : k ≡ place - 1 = omega arith in
                (omega arith, λ d. sym (ap (λ i. get_or found i d) here) ∙ get_or_default found k d 0 short ∙ at_k)
            at_last (inr (inl less)) =
                let last : place - 1 < length found = omega (arith, p.within) in
                let before = sorted_pairs (order_at v starts) found o.crossed o.sorted k (place - 1) 0 (omega arith) last in
                absurd (true≢false (sym (subst (λ m. higher_at v starts m (get_or found (place - 1) 0) ≡ true) at_k before) ∙ p.above (place - 1) 0 (omega arith)))
            at_last (inr (inr more)) = absurd (true≢false (sym (p.below k 0 (omega arith) short) ∙ itself))

    -- so what is removed there is the member
    pub place-remove : remove found (place - 1) ≡ filter (λ m. not (m == n)) found
    place-remove = remove_is_filter n found (place - 1) 0 (omega (arith, p.within, member_above.0)) (member_above.1 0) differ

    -- and it stands at no other place
    pub only_place : (k d : ℕ) → k < length found → get_or found k d ≡ n → k ≡ place - 1
    only_place k d short at = by (cases_order k (place - 1))
      where
        last : place - 1 < length found
        last = omega (arith, p.within, member_above.0)

        same : get_or found k d ≡ get_or found (place - 1) d
        same = at ∙ sym (member_above.1 d)

        by : (k ≡ place - 1) ⊎ ((k < place - 1) ⊎ (place - 1 < k)) → k ≡ place - 1
        by (inl e) = e
        by (inr (inl less)) = absurd (differ k (place - 1) d less last same)
        by (inr (inr more)) = absurd (differ (place - 1) k d more short (sym same))

-- ---- what is touched

-- a segment has the face that is reached above it, or else it is touched
differing_at : (starts : List LabelledSegment) (reached : ℕ) (touched : List ℕ) (n : ℕ) → ((sides_at starts n).upper ≡ reached) ⊎ Contains (touched ++ differing starts reached (n ∷ [])) n
differing_at starts reached touched n = by ((sides_at starts n).upper == reached) refl
  where
    by : (b : Bool) → ((sides_at starts n).upper == reached) ≡ b → ((sides_at starts n).upper ≡ reached) ⊎ Contains (touched ++ differing starts reached (n ∷ [])) n
    by true e = inl ((Decides-eqb (sides_at starts n).upper reached).0 e)
    by false e = inr (Contains-append_right touched (differing starts reached (n ∷ [])) n (subst (λ (b : Bool). Contains (cond (not b) (n ∷ []) []) n) (sym e) (0, omega arith, refl)))

-- the one at a place, where there is one
pub taken_one : (found : List ℕ) (k d : ℕ) → k < length found → take 1 (drop k found) ≡ get_or found k d ∷ []
taken_one found k d short = ap (take 1) (drop_more found k d short)

differing_there : (starts : List LabelledSegment) (reached : ℕ) (touched found : List ℕ) (k d : ℕ) → k < length found
    → ((sides_at starts (get_or found k d)).upper ≡ reached) ⊎ Contains (touched ++ differing starts reached (take 1 (drop k found))) (get_or found k d)
differing_there starts reached touched found k d short =
    subst (λ (ns : List ℕ). ((sides_at starts (get_or found k d)).upper ≡ reached) ⊎ Contains (touched ++ differing starts reached ns) (get_or found k d)) (sym (taken_one found k d short))
    (differing_at starts reached touched (get_or found k d))

pub touched_before : (touched more : List ℕ) (n : ℕ) → Contains touched n → Contains (touched ++ more) n
touched_before touched more n c = Contains-append_left touched more n c

All-touched : (P : ℕ → Type 0) (starts : List LabelledSegment) (reached : ℕ) (touched found : List ℕ) (k : ℕ) → All P touched → All P found → All P (touched ++ differing starts reached (take 1 (drop k found)))
All-touched P starts reached touched found k h g =
    All-append P touched (differing starts reached (take 1 (drop k found))) h (All-filter (λ n. not ((sides_at starts n).upper == reached)) P (take 1 (drop k found)) (All-take P 1 (drop k found) (All-drop P k found g)))

module _ (v : ℤ) (starts : List LabelledSegment) (n : ℕ) (found touched : List ℕ) (place : ℕ) (p : IsPlace v starts n found place) (o : IsOrdered v starts found) (t : AreTouched v starts found touched) where
  -- each of the stack begins up to the line
  begun : All (λ m. left_end (segment_at starts m) ≤ℤ v) found
  begun k d short = (ends_from_crossed v (segment_at starts (get_or found k d)) (o.crossed k d short)).0

  -- what goes out leaves the one below it touched, or with the face that is reached above it
  pub touched_out : Contains found n → AreTouched v starts (remove found (place - 1)) (touched ++ differing starts (face_above (map (sides_at starts) found) (place - 1)) (take 1 (drop place found)))
  touched_out member = record {
    known = All-touched (λ m. m < length starts) starts reached touched found place t.known o.known;
    begun = All-touched (λ m. left_end (segment_at starts m) ≤ℤ v) starts reached touched found place t.begun begun;
    covered =
        let above = member_above v starts n found place p o member in
        let after = touched ++ more in
        let here : suc (place - 1) ≡ place = omega (arith, above.0) in
        covered_remove (sides_at starts) after 0 found (place - 1) (omega (arith, p.within, above.0))
        (subst (λ k. (d : ℕ) → k < length found → ((sides_at starts (get_or found k d)).upper ≡ reached) ⊎ Contains after (get_or found k d)) (sym here) (differing_there starts reached touched found place))
        (covered_more (sides_at starts) touched after (touched_before touched more) 0 found t.covered);
  }
    where
      reached : ℕ
      reached = face_above (map (sides_at starts) found) (place - 1)

      more : List ℕ
      more = differing starts reached (take 1 (drop place found))

  -- and so what comes in, and the one below it
  pub touched_in : n < length starts → crossed_at v starts n ≡ true
      → AreTouched v starts (insert found place n) ((touched ++ differing starts (face_above (map (sides_at starts) found) place) (n ∷ [])) ++ differing starts (sides_at starts n).lower (take 1 (drop place found)))
  touched_in short crossed = record {
    known = All-touched (λ m. m < length starts) starts lower first found place (with_first (λ m. m < length starts) t.known short) o.known;
    begun = All-touched P starts lower first found place (with_first P t.begun (ends_from_crossed v (segment_at starts n) crossed).0) begun;
    covered =
        covered_insert (sides_at starts) (first ++ more) n 0 found place p.within
        (⊎_elim inl (λ c. inr (touched_before first more n c)) (differing_at starts reached touched n))
        (differing_there starts lower first found place)
        (covered_more (sides_at starts) touched (first ++ more) (λ m c. touched_before first more m (Contains-append_left touched (differing starts reached (n ∷ [])) m c)) 0 found t.covered);
  }
    where
      P : ℕ → Type 0
      P m = left_end (segment_at starts m) ≤ℤ v

      reached : ℕ
      reached = face_above (map (sides_at starts) found) place

      lower : ℕ
      lower = (sides_at starts n).lower

      first : List ℕ
      first = touched ++ differing starts reached (n ∷ [])

      more : List ℕ
      more = differing starts lower (take 1 (drop place found))

      with_first : (Q : ℕ → Type 0) → All Q touched → Q n → All Q first
      with_first Q h q = All-append Q touched (differing starts reached (n ∷ [])) h (All-filter (λ m. not ((sides_at starts m).upper == reached)) Q (n ∷ []) (All-cons Q n [] q (All-nil Q)))
