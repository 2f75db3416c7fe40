-- The edges of the finer slice: those that stay, and the pieces of the others.
use Rattle.std.proofs.Common.{◌≡◌, ℕ, ◌<◌, Bool, true, false, ◌&&◌, ◌||◌, cond, nat_lt, List, [], ◌∷◌, ◌++◌, map, filter, get_or, All, IsPermutation, Option, Some, None, refl, sym, ap, ap₂, subst, ◌∙◌, true≢false, append_assoc, arith}
use Rattle.std.specs.Prelude.{◌==◌, find, flat_map, not}
use Rattle.std.specs.List.{list_any}
use Rattle.std.proofs.lemmas.Bool.{eq-eqb, ne_eqb, eqb-true}
use Rattle.std.proofs.lemmas.List.Elements.{All-nil, All-cons, All-head, All-tail}
use Rattle.std.proofs.lemmas.List.Folds.{list_any_none}
use Rattle.std.proofs.lemmas.List.Sorted.{IsPermutation-refl, IsPermutation-cons, IsPermutation-trans, IsPermutation-append_left, IsPermutation-append_right, IsPermutation-append_comm}
use Rattle.lemmas.specs.Sorting.{is_sorted_by}
use Rattle.lemmas.proofs.Members.{filter_agree_on}
use Rattle.lemmas.proofs.Sorting.{sorted_tail, sorted_head, sorted_cons}
use Rattle.tgap_model.specs.declared.slice.Edge.{Edge}
use Rattle.tgap_model.specs.declared.record.Mend.{Mend}
use Rattle.tgap_model.specs.declared.record.StepRecord.{StepRecord}
use Rattle.tgap_model.specs.Records.{edge_before}
use Rattle.client_replay.specs.Coming.{lowered}
use Rattle.client_replay.proofs.Found.{above_first}
use Rattle.client_replay.proofs.Apart.{edge_order}

-- the edges that stay: those that none of the mends names, where edges and mends stand in the order of their keys
abbrev pub kept : StepRecord → List Mend → List Edge → List Edge
kept r mends [] = []
kept r [] (e ∷ edges) = lowered r e ∷ kept r [] edges
kept r (m ∷ mends) (e ∷ edges) = cond (e.key == m.key) (kept r mends edges) (lowered r e ∷ kept r (m ∷ mends) edges)

-- a list moves in front of another
across : {A : Type 0} (xs ys zs : List A) → IsPermutation (xs ++ (ys ++ zs)) (ys ++ (xs ++ zs))
across xs ys zs =
    subst (λ l. IsPermutation l (ys ++ (xs ++ zs))) (append_assoc xs ys zs)
    (subst (IsPermutation ((xs ++ ys) ++ zs)) (append_assoc ys xs zs) (IsPermutation-append_left zs (xs ++ ys) (ys ++ xs) (IsPermutation-append_comm xs ys)))

-- functions that agree on the members give the same lists
pub flat_map_agree : {A B : Type 0} (f g : A → List B) (xs : List A) → All (λ x. f x ≡ g x) xs → flat_map f xs ≡ flat_map g xs
flat_map_agree f g [] h = refl
flat_map_agree f g (x ∷ xs) h = ap₂ (λ ys zs. ys ++ zs) (All-head (λ y. f y ≡ g y) x xs h) (flat_map_agree f g xs (All-tail (λ y. f y ≡ g y) x xs h))

-- what edges above a key have in them is above it
any_above : (n k : ℕ) (edges : List Edge) → All (λ e. n < e.key) edges → list_any (λ e. e.key == k) edges ≡ true → n < k
any_above n k [] h t = absurd (true≢false (sym t))
any_above n k (e ∷ edges) h t = by (e.key == k) refl t (any_above n k edges (All-tail (λ f. n < f.key) e edges h))
  where
    by : (b : Bool) → (e.key == k) ≡ b → (b || list_any (λ f. f.key == k) edges) ≡ true → (list_any (λ f. f.key == k) edges ≡ true → n < k) → n < k
    by true same u rest = omega (arith, All-head (λ f. n < f.key) e edges h, eqb-true e.key k same)
    by false same u rest = rest u

module _ (r : StepRecord) where
  -- each of the mends names one of the edges
  abbrev pub AreNamed : List Edge → List Mend → Type 0
  AreNamed edges mends = All (λ m. list_any (λ e. e.key == m.key) edges ≡ true) mends

  -- mends that name edges past the first, as there is another key at the first
  still_named : (e : Edge) (edges : List Edge) (mends : List Mend) → All (λ m. e.key ≡ m.key → ⊥) mends → AreNamed (e ∷ edges) mends → AreNamed edges mends
  still_named e edges [] ne h = All-nil (λ m. list_any (λ f. f.key == m.key) edges ≡ true)
  still_named e edges (m ∷ mends) ne h =
      All-cons (λ n. list_any (λ f. f.key == n.key) edges ≡ true) m mends
      (sym (ap (λ (b : Bool). b || list_any (λ f. f.key == m.key) edges) (ne_eqb e.key m.key (All-head (λ n. e.key ≡ n.key → ⊥) m mends ne)))
      ∙ All-head (λ n. list_any (λ f. f.key == n.key) (e ∷ edges) ≡ true) m mends h)
      (still_named e edges mends (All-tail (λ n. e.key ≡ n.key → ⊥) m mends ne) (All-tail (λ n. list_any (λ f. f.key == n.key) (e ∷ edges) ≡ true) m mends h))

  -- what is known of the first edge and the first mend: they belong together, or the mend names a later edge
  first_two : (e : Edge) (edges : List Edge) (m : Mend) (mends : List Mend) → is_sorted_by edge_before (e ∷ edges) ≡ true
      → is_sorted_by (λ x y. nat_lt x.key y.key) (m ∷ mends) ≡ true → AreNamed (e ∷ edges) (m ∷ mends) → (e.key == m.key) ≡ false → All (λ n. e.key < n.key) (m ∷ mends)
  first_two e edges m mends s t named differ =
      let in_rest = sym (ap (λ (b : Bool). b || list_any (λ f. f.key == m.key) edges) differ) ∙ All-head (λ n. list_any (λ f. f.key == n.key) (e ∷ edges) ≡ true) m mends named in
      let less = any_above e.key m.key edges (above_first (λ f. f.key) e edges s) in_rest in
      All-cons (λ n. e.key < n.key) m mends less (λ k d l. omega (arith, above_first (λ n. n.key) m mends t k d l, less))

  -- a mend of an edge with this key
  abbrev pub is_mended : List Mend → Edge → Bool
  is_mended mends e = list_any (λ m. m.key == e.key) mends

  -- the edges that stay are those that no mend names
  pub kept_is : (mends : List Mend) (edges : List Edge) → is_sorted_by edge_before edges ≡ true → is_sorted_by (λ x y. nat_lt x.key y.key) mends ≡ true → AreNamed edges mends
      → kept r mends edges ≡ map (lowered r) (filter (λ e. not (is_mended mends e)) edges)
  kept_is mends [] s t named = refl
  kept_is [] (e ∷ edges) s t named =
      ap (λ zs. lowered r e ∷ zs) (kept_is [] edges (sorted_tail edge_before e edges s) refl (All-nil (λ (n : Mend). list_any (λ (f : Edge). f.key == n.key) edges ≡ true)))
  kept_is (m ∷ mends) (e ∷ edges) s t named =
      by (e.key == m.key) refl
      (λ named'. kept_is mends edges (sorted_tail edge_before e edges s) (sorted_tail (λ x y. nat_lt x.key y.key) m mends t) named')
      (λ named'. kept_is (m ∷ mends) edges (sorted_tail edge_before e edges s) t named')
    where
      left : List Edge
      left = filter (λ f. not (is_mended (m ∷ mends) f)) edges

      by : (b : Bool) → (e.key == m.key) ≡ b
          → (AreNamed edges mends → kept r mends edges ≡ map (lowered r) (filter (λ f. not (is_mended mends f)) edges))
          → (AreNamed edges (m ∷ mends) → kept r (m ∷ mends) edges ≡ map (lowered r) left)
          → cond b (kept r mends edges) (lowered r e ∷ kept r (m ∷ mends) edges) ≡ map (lowered r) (filter (λ f. not (is_mended (m ∷ mends) f)) (e ∷ edges))
      by true h both later =
          let same = eqb-true e.key m.key h in
          let ne : All (λ n. e.key ≡ n.key → ⊥) mends = λ i d l q. omega (arith, q, same, above_first (λ n. n.key) m mends t i d l) in
          let above = above_first (λ f. f.key) e edges s in
          let others : filter (λ f. not (is_mended mends f)) edges ≡ left =
          filter_agree_on (λ f. not (is_mended mends f)) (λ f. not (is_mended (m ∷ mends) f)) edges
          (λ k d l. sym (ap (λ (b : Bool). not (b || is_mended mends (get_or edges k d))) (ne_eqb m.key (get_or edges k d).key (λ q. omega (arith, q, same, above k d l))))) in
          both (still_named e edges mends ne (All-tail (λ n. list_any (λ f. f.key == n.key) (e ∷ edges) ≡ true) m mends named))
          ∙ ap (map (lowered r)) others
          ∙ sym (ap (λ (b : Bool). map (lowered r) (cond (not (b || is_mended mends e)) (e ∷ left) left)) (eq-eqb m.key e.key (sym same)))
      by false h both later =
          let above = first_two e edges m mends s t named h in
          let ne : All (λ n. e.key ≡ n.key → ⊥) (m ∷ mends) = λ i d l q. omega (arith, q, above i d l) in
          let none : is_mended (m ∷ mends) e ≡ false = list_any_none (λ n. n.key == e.key) (m ∷ mends) (λ i d l. ne_eqb (get_or (m ∷ mends) i d).key e.key (λ z. omega (arith, z, above i d l))) in
          ap (λ zs. lowered r e ∷ zs) (later (still_named e edges (m ∷ mends) ne named))
          ∙ sym (ap (λ (b : Bool). map (lowered r) (cond (not b) (e ∷ left) left)) none)

  -- what holds of each lowered edge holds of those that stay
  pub All-kept : (P : Edge → Type 0) (mends : List Mend) (edges : List Edge) → All (λ e. P (lowered r e)) edges → All P (kept r mends edges)
  All-kept P mends [] h = All-nil P
  All-kept P [] (e ∷ edges) h =
      All-cons P (lowered r e) (kept r [] edges) (All-head (λ f. P (lowered r f)) e edges h) (All-kept P [] edges (All-tail (λ f. P (lowered r f)) e edges h))
  All-kept P (m ∷ mends) (e ∷ edges) h =
      let tail = All-tail (λ f. P (lowered r f)) e edges h in
      by (e.key == m.key) (All-kept P mends edges tail) (All-kept P (m ∷ mends) edges tail)
    where
      by : (b : Bool) → All P (kept r mends edges) → All P (kept r (m ∷ mends) edges) → All P (cond b (kept r mends edges) (lowered r e ∷ kept r (m ∷ mends) edges))
      by true k l = k
      by false k l = All-cons P (lowered r e) (kept r (m ∷ mends) edges) (All-head (λ f. P (lowered r f)) e edges h) l

  -- they stand in the order of their keys
  pub kept-is_sorted : (mends : List Mend) (edges : List Edge) → is_sorted_by edge_before edges ≡ true → is_sorted_by edge_before (kept r mends edges) ≡ true
  kept-is_sorted mends [] s = refl
  kept-is_sorted [] (e ∷ edges) s =
      sorted_cons edge_before (lowered r e) (kept r [] edges) (All-kept (λ f. edge_before (lowered r e) f ≡ true) [] edges (sorted_head edge_before edge_order e edges tt (λ k d l. tt) s))
      (kept-is_sorted [] edges (sorted_tail edge_before e edges s))
  kept-is_sorted (m ∷ mends) (e ∷ edges) s =
      let tail = sorted_tail edge_before e edges s in
      by (e.key == m.key) (kept-is_sorted mends edges tail) (kept-is_sorted (m ∷ mends) edges tail)
    where
      by : (b : Bool) → is_sorted_by edge_before (kept r mends edges) ≡ true → is_sorted_by edge_before (kept r (m ∷ mends) edges) ≡ true
          → is_sorted_by edge_before (cond b (kept r mends edges) (lowered r e ∷ kept r (m ∷ mends) edges)) ≡ true
      by true k l = k
      by false k l =
          sorted_cons edge_before (lowered r e) (kept r (m ∷ mends) edges)
          (All-kept (λ f. edge_before (lowered r e) f ≡ true) (m ∷ mends) edges (sorted_head edge_before edge_order e edges tt (λ i d n. tt) s)) l

  -- a key stays where an edge has it and no mend names it
  pub key_stays : (k : ℕ) (mends : List Mend) (edges : List Edge) → is_sorted_by edge_before edges ≡ true → is_sorted_by (λ x y. nat_lt x.key y.key) mends ≡ true → AreNamed edges mends
      → list_any (λ e. e.key == k) (kept r mends edges) ≡ (list_any (λ e. e.key == k) edges && not (list_any (λ m. m.key == k) mends))
  key_stays k mends [] s t named = refl
  key_stays k [] (e ∷ edges) s t named =
      one (e.key == k) (list_any (λ f. f.key == k) (kept r [] edges)) (list_any (λ f. f.key == k) edges)
      (key_stays k [] edges (sorted_tail edge_before e edges s) refl (All-nil (λ (n : Mend). list_any (λ (f : Edge). f.key == n.key) edges ≡ true)))
    where
      one : (a b c : Bool) → b ≡ (c && true) → (a || b) ≡ ((a || c) && true)
      one true b c h = refl
      one false b c h = h
  key_stays k (m ∷ mends) (e ∷ edges) s t named =
      by (e.key == m.key) refl
      (λ named'. key_stays k mends edges (sorted_tail edge_before e edges s) (sorted_tail (λ x y. nat_lt x.key y.key) m mends t) named')
      (λ named'. key_stays k (m ∷ mends) edges (sorted_tail edge_before e edges s) t named')
    where
      none_at : (xs : List Edge) → All (λ f. e.key < f.key) xs → e.key ≡ k → list_any (λ f. f.key == k) xs ≡ false
      none_at xs h q = list_any_none (λ f. f.key == k) xs (λ i d l. ne_eqb (get_or xs i d).key k (λ z. omega (arith, z, q, h i d l)))

      both_at : (a c d : Bool) → (a ≡ true → c ≡ false) → (c && not d) ≡ ((a || c) && not (a || d))
      both_at true c d h = ap (λ (b : Bool). b && not d) (h refl)
      both_at false c d h = refl

      later_at : (a c d : Bool) → (a ≡ true → d ≡ false) → (a || (c && not d)) ≡ ((a || c) && not d)
      later_at true c d h = sym (ap not (h refl))
      later_at false c d h = refl

      by : (b : Bool) → (e.key == m.key) ≡ b
          → (AreNamed edges mends → list_any (λ f. f.key == k) (kept r mends edges) ≡ (list_any (λ f. f.key == k) edges && not (list_any (λ n. n.key == k) mends)))
          → (AreNamed edges (m ∷ mends) → list_any (λ f. f.key == k) (kept r (m ∷ mends) edges) ≡ (list_any (λ f. f.key == k) edges && not (list_any (λ n. n.key == k) (m ∷ mends))))
          → list_any (λ f. f.key == k) (cond b (kept r mends edges) (lowered r e ∷ kept r (m ∷ mends) edges)) ≡ (list_any (λ f. f.key == k) (e ∷ edges) && not (list_any (λ n. n.key == k) (m ∷ mends)))
      by true h both later =
          let same = eqb-true e.key m.key h in
          let ne : All (λ n. e.key ≡ n.key → ⊥) mends = λ i d l q. omega (arith, q, same, above_first (λ n. n.key) m mends t i d l) in
          both (still_named e edges mends ne (All-tail (λ n. list_any (λ f. f.key == n.key) (e ∷ edges) ≡ true) m mends named))
          ∙ both_at (e.key == k) (list_any (λ f. f.key == k) edges) (list_any (λ n. n.key == k) mends) (λ q. none_at edges (above_first (λ f. f.key) e edges s) (eqb-true e.key k q))
          ∙ ap (λ n. list_any (λ f. f.key == k) (e ∷ edges) && not ((n == k) || list_any (λ n. n.key == k) mends)) same
      by false h both later =
          let above = first_two e edges m mends s t named h in
          let ne : All (λ n. e.key ≡ n.key → ⊥) (m ∷ mends) = λ i d l q. omega (arith, q, above i d l) in
          ap (λ (b : Bool). (e.key == k) || b) (later (still_named e edges (m ∷ mends) ne named))
          ∙ later_at (e.key == k) (list_any (λ f. f.key == k) edges) (list_any (λ n. n.key == k) (m ∷ mends))
          (λ q. list_any_none (λ n. n.key == k) (m ∷ mends) (λ i d l. ne_eqb (get_or (m ∷ mends) i d).key k (λ z. omega (arith, z, eqb-true e.key k q, above i d l))))

module _ (r : StepRecord) (cut : Edge → Mend → List Edge) where
  -- the edges that an edge becomes by these mends, where a mend cuts it so
  abbrev pub refined_by : List Mend → Edge → List Edge
  refined_by mends e = elim (find (λ m. m.key == e.key) mends) [ None ↦ lowered r e ∷ [] | Some m ↦ cut e m ]

  abbrev by_mend : Edge → Option Mend → List Edge
  by_mend e o = elim o [ None ↦ lowered r e ∷ [] | Some m ↦ cut e m ]

  -- the edges that the edge of a mend becomes, or none where there is no such edge
  abbrev pub mended_by : List Edge → Mend → List Edge
  mended_by edges m = elim (find (λ e. e.key == m.key) edges) [ None ↦ [] | Some e ↦ cut e m ]

  abbrev of_edge : Mend → Option Edge → List Edge
  of_edge m o = elim o [ None ↦ [] | Some e ↦ cut e m ]

  -- a mend of another edge does not count
  other_mend : (m : Mend) (mends : List Mend) (e : Edge) → (m.key ≡ e.key → ⊥) → refined_by (m ∷ mends) e ≡ refined_by mends e
  other_mend m mends e ne = ap (λ (b : Bool). by_mend e (cond b (Some m) (find (λ n. n.key == e.key) mends))) (ne_eqb m.key e.key ne)

  other_edge : (e : Edge) (edges : List Edge) (m : Mend) → (e.key ≡ m.key → ⊥) → mended_by (e ∷ edges) m ≡ mended_by edges m
  other_edge e edges m ne = ap (λ (b : Bool). of_edge m (cond b (Some e) (find (λ f. f.key == m.key) edges))) (ne_eqb e.key m.key ne)

  own_mend : (m : Mend) (mends : List Mend) (e : Edge) → m.key ≡ e.key → refined_by (m ∷ mends) e ≡ cut e m
  own_mend m mends e same = ap (λ (b : Bool). by_mend e (cond b (Some m) (find (λ n. n.key == e.key) mends))) (eq-eqb m.key e.key same)

  own_edge : (e : Edge) (edges : List Edge) (m : Mend) → e.key ≡ m.key → mended_by (e ∷ edges) m ≡ cut e m
  own_edge e edges m same = ap (λ (b : Bool). of_edge m (cond b (Some e) (find (λ f. f.key == m.key) edges))) (eq-eqb e.key m.key same)

  -- no mend names the edge: it is lowered
  no_mend : (mends : List Mend) (e : Edge) → All (λ m. e.key < m.key) mends → refined_by mends e ≡ lowered r e ∷ []
  no_mend [] e h = refl
  no_mend (m ∷ mends) e h =
      other_mend m mends e (λ same. omega (arith, same, All-head (λ n. e.key < n.key) m mends h)) ∙ no_mend mends e (All-tail (λ n. e.key < n.key) m mends h)

  -- the finer slice's edges are those that stay and the pieces
  pub refined-permutation : (mends : List Mend) (edges : List Edge) → is_sorted_by edge_before edges ≡ true → is_sorted_by (λ x y. nat_lt x.key y.key) mends ≡ true → AreNamed r edges mends
      → IsPermutation (flat_map (refined_by mends) edges) (kept r mends edges ++ flat_map (mended_by edges) mends)
  refined-permutation [] [] s t named = IsPermutation-refl []
  refined-permutation (m ∷ mends) [] s t named = absurd (true≢false (sym (All-head (λ (n : Mend). list_any (λ (f : Edge). f.key == n.key) [] ≡ true) m mends named)))
  refined-permutation [] (e ∷ edges) s t named =
      IsPermutation-cons (lowered r e) (flat_map (refined_by []) edges) (kept r [] edges ++ [])
      (refined-permutation [] edges (sorted_tail edge_before e edges s) refl (All-nil (λ (n : Mend). list_any (λ (f : Edge). f.key == n.key) edges ≡ true)))
  refined-permutation (m ∷ mends) (e ∷ edges) s t named =
      by (e.key == m.key) refl
      (λ named'. refined-permutation mends edges (sorted_tail edge_before e edges s) (sorted_tail (λ x y. nat_lt x.key y.key) m mends t) named')
      (λ named'. refined-permutation (m ∷ mends) edges (sorted_tail edge_before e edges s) t named')
    where
      by : (b : Bool) → (e.key == m.key) ≡ b
          → (AreNamed r edges mends → IsPermutation (flat_map (refined_by mends) edges) (kept r mends edges ++ flat_map (mended_by edges) mends))
          → (AreNamed r edges (m ∷ mends) → IsPermutation (flat_map (refined_by (m ∷ mends)) edges) (kept r (m ∷ mends) edges ++ flat_map (mended_by edges) (m ∷ mends)))
          → IsPermutation (flat_map (refined_by (m ∷ mends)) (e ∷ edges)) (cond b (kept r mends edges) (lowered r e ∷ kept r (m ∷ mends) edges) ++ flat_map (mended_by (e ∷ edges)) (m ∷ mends))
      by true h both later =
          let same = eqb-true e.key m.key h in
          let above_m = above_first (λ n. n.key) m mends t in
          let above_e = above_first (λ f. f.key) e edges s in
          let ne : All (λ n. e.key ≡ n.key → ⊥) mends = λ k d l q. omega (arith, q, same, above_m k d l) in
          let pieces = cut e m in
          let others = flat_map_agree (refined_by (m ∷ mends)) (refined_by mends) edges
          (λ k d l. other_mend m mends (get_or edges k d) (λ q. omega (arith, q, same, above_e k d l))) in
          let others' = flat_map_agree (mended_by (e ∷ edges)) (mended_by edges) mends (λ k d l. other_edge e edges (get_or mends k d) (ne k d l)) in
          let front : flat_map (refined_by (m ∷ mends)) (e ∷ edges) ≡ pieces ++ flat_map (refined_by mends) edges = ap₂ (λ xs ys. xs ++ ys) (own_mend m mends e (sym same)) others in
          let back : flat_map (mended_by (e ∷ edges)) (m ∷ mends) ≡ pieces ++ flat_map (mended_by edges) mends = ap₂ (λ xs ys. xs ++ ys) (own_edge e edges m same) others' in
          let rest = both (still_named r e edges mends ne (All-tail (λ n. list_any (λ f. f.key == n.key) (e ∷ edges) ≡ true) m mends named)) in
          let stay = kept r mends edges in
          let put = flat_map (mended_by edges) mends in
          let whole = IsPermutation-trans (pieces ++ flat_map (refined_by mends) edges) (pieces ++ (stay ++ put)) (stay ++ (pieces ++ put))
          (IsPermutation-append_right pieces (flat_map (refined_by mends) edges) (stay ++ put) rest) (across pieces stay put) in
          subst (λ zs. IsPermutation zs (stay ++ flat_map (mended_by (e ∷ edges)) (m ∷ mends))) (sym front) (subst (λ zs. IsPermutation (pieces ++ flat_map (refined_by mends) edges) (stay ++ zs)) (sym back) whole)
      by false h both later =
          let above = first_two r e edges m mends s t named h in
          let ne : All (λ n. e.key ≡ n.key → ⊥) (m ∷ mends) = λ k d l q. omega (arith, q, above k d l) in
          let others' = flat_map_agree (mended_by (e ∷ edges)) (mended_by edges) (m ∷ mends) (λ k d l. other_edge e edges (get_or (m ∷ mends) k d) (ne k d l)) in
          let front : flat_map (refined_by (m ∷ mends)) (e ∷ edges) ≡ lowered r e ∷ flat_map (refined_by (m ∷ mends)) edges =
          ap (λ xs. xs ++ flat_map (refined_by (m ∷ mends)) edges) (no_mend (m ∷ mends) e above) in
          let rest = later (still_named r e edges (m ∷ mends) ne named) in
          let stay = kept r (m ∷ mends) edges in
          let whole = IsPermutation-cons (lowered r e) (flat_map (refined_by (m ∷ mends)) edges) (stay ++ flat_map (mended_by edges) (m ∷ mends)) rest in
          subst (λ zs. IsPermutation zs ((lowered r e ∷ stay) ++ flat_map (mended_by (e ∷ edges)) (m ∷ mends))) (sym front)
          (subst (λ zs. IsPermutation (lowered r e ∷ flat_map (refined_by (m ∷ mends)) edges) ((lowered r e ∷ stay) ++ zs)) (sym others') whole)
