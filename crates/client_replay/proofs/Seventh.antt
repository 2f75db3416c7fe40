-- The last rule, and the edges of the finer slice: those that stay and those that come.
use Rattle.std.proofs.Common.{◌≡◌, ℕ, ◌+◌, Bool, true, false, ◌&&◌, nat_lt, List, [], ◌∷◌, ◌++◌, map, get_or, All, AllPairs, IsPermutation, Option, Some, None, refl, sym, ap, subst, ◌∙◌, true≢false, append_assoc, arith}
use Rattle.std.specs.Prelude.{◌==◌, flat_map, not, is_some}
use Rattle.std.specs.List.{list_all, list_any}
use Rattle.std.specs.List.Sorted.{IsNonDecreasingBy}
use Rattle.std.specs.Cmp.Derive.{both_true}
use Rattle.std.proofs.lemmas.Bool.{and_parts, or_parts, eq-eqb, ne_eqb, lt-ltb, not_from_false, not-true}
use Rattle.std.proofs.lemmas.List.Elements.{All-nil, All-cons, All-tail}
use Rattle.std.proofs.lemmas.List.Folds.{list_any_none}
use Rattle.std.proofs.lemmas.List.Sums.{AllPass-from_list_all}
use Rattle.std.proofs.lemmas.List.Sorted.{IsPermutation-sym, IsPermutation-trans, IsPermutation-append_left, IsPermutation-append_right}
use Rattle.lemmas.specs.Sorting.{is_sorted_by, sort_by}
use Rattle.lemmas.proofs.Members.{AllPairs-head, AllPairs-tail, AllPairs-append}
use Rattle.lemmas.proofs.Sorting.{sorted_from_adjacent, sort_by-permutation, sort_by-permuted, sort_by-is_sorted, AllPairs-permutation}
use Rattle.tgap_model.specs.declared.slice.Edge.{Edge}
use Rattle.tgap_model.specs.declared.slice.Slice.{Slice}
use Rattle.tgap_model.specs.declared.record.StepRecord.{StepRecord}
use Rattle.tgap_model.specs.declared.record.Mend.{Mend}
use Rattle.tgap_model.specs.Records.{edge_before, edge_with, has_one_side, fits_mends}
use Rattle.client_replay.specs.Coming.{staying, stays}
use Rattle.client_replay.specs.Rules.{are_in_order, mends_in_order, names_edge}
use Rattle.client_replay.specs.Working.{DifferInKey}
use Rattle.client_replay.proofs.Found.{ascend_by, any_found}
use Rattle.client_replay.proofs.Apart.{edge_order, keys_differ, differ_in_key, differ_turned, sorted_apart}
use Rattle.client_replay.proofs.Staying.{kept, AreNamed, refined_by, mended_by, refined-permutation, kept_is, kept-is_sorted, key_stays}

-- what holds of two lists holds of the second
pub All-back : {A : Type 0} (P : A → Type 0) (xs ys : List A) → All P (xs ++ ys) → All P ys
All-back P [] ys h = h
All-back P (x ∷ xs) ys h = All-back P xs ys (All-tail P x (xs ++ ys) h)

-- what rule 3 says
pub mends_sorted : (s : Slice) (r : StepRecord) → fits_mends s r ≡ true → mends_in_order r.mends ≡ true
mends_sorted s r h = (and_parts (mends_in_order r.mends) (list_all (names_edge s r) r.mends) h).0

pub mends_named : (s : Slice) (r : StepRecord) → fits_mends s r ≡ true → AreNamed r s.edges r.mends
mends_named s r h k d l =
    let m = get_or r.mends k d in
    any_found (λ e. e.key == m.key) s.edges
    ∙ named (edge_with s m.key) (AllPass-from_list_all (names_edge s r) r.mends (and_parts (mends_in_order r.mends) (list_all (names_edge s r) r.mends) h).1 k d l)
  where
    named : (o : Option Edge) → elim o [ None ↦ false | Some e ↦ has_one_side r.made e ] ≡ true → is_some o ≡ true
    named None e = e
    named (Some f) e = refl

-- all edges of the finer slice, where a mend cuts its edge so, and these come beside the pieces
abbrev pub all_edges_by : StepRecord → (Edge → Mend → List Edge) → List Edge → List Edge → List Edge
all_edges_by r cut edges more = flat_map (refined_by r cut r.mends) edges ++ more

-- those of them that come
abbrev pub coming_by : StepRecord → (Edge → Mend → List Edge) → List Edge → List Edge → List Edge
coming_by r cut edges more = flat_map (mended_by r cut edges) r.mends ++ more

module _ (s : Slice) (r : StepRecord) (cut : Edge → Mend → List Edge) (more : List Edge) (in_order : are_in_order s.edges ≡ true) (fits : fits_mends s r ≡ true) where
  edges_sorted : is_sorted_by edge_before s.edges ≡ true
  edges_sorted = sym (ascend_by (λ e. e.key) s.edges) ∙ in_order

  sorted_mends : is_sorted_by (λ x y. nat_lt x.key y.key) r.mends ≡ true
  sorted_mends = sym (ascend_by (λ m. m.key) r.mends) ∙ mends_sorted s r fits

  stay_sorted : is_sorted_by edge_before (kept r r.mends s.edges) ≡ true
  stay_sorted = kept-is_sorted r r.mends s.edges edges_sorted

  stay_is : kept r r.mends s.edges ≡ staying r s.edges
  stay_is = kept_is r r.mends s.edges edges_sorted sorted_mends (mends_named s r fits)

  -- they are those that stay, and those that come
  all-permutation : (edges : List Edge) → IsPermutation (coming_by r cut s.edges more) edges → IsPermutation (all_edges_by r cut s.edges more) (kept r r.mends s.edges ++ edges)
  all-permutation edges h =
      let put = flat_map (mended_by r cut s.edges) r.mends in
      let first = IsPermutation-append_left more (flat_map (refined_by r cut r.mends) s.edges) (kept r r.mends s.edges ++ put)
      (refined-permutation r cut r.mends s.edges edges_sorted sorted_mends (mends_named s r fits)) in
      let second = subst (λ zs. IsPermutation (all_edges_by r cut s.edges more) zs) (append_assoc (kept r r.mends s.edges) put more) first in
      IsPermutation-trans (all_edges_by r cut s.edges more) (kept r r.mends s.edges ++ (put ++ more)) (kept r r.mends s.edges ++ edges) second
      (IsPermutation-append_right (kept r r.mends s.edges) (put ++ more) edges h)

  stays_is : (k : ℕ) → stays s r k ≡ list_any (λ e. e.key == k) (kept r r.mends s.edges)
  stays_is k = sym (key_stays r k r.mends s.edges edges_sorted sorted_mends (mends_named s r fits))

  module _ (edges : List Edge) (moved : IsPermutation (coming_by r cut s.edges more) edges) where
    -- all edges of the finer slice are those that stay and these
    pub all_are : IsPermutation (all_edges_by r cut s.edges more) (staying r s.edges ++ edges)
    all_are = subst (λ (zs : List Edge). IsPermutation (all_edges_by r cut s.edges more) (zs ++ edges)) stay_is (all-permutation edges moved)

    -- the test passes: those that come have keys of their own
    own_keys : list_any (λ e. stays s r e.key) edges ≡ false → All (λ e. All (λ f. f.key ≡ e.key → ⊥) edges) (kept r r.mends s.edges)
    own_keys h k d l i x m same =
        let e = get_or (kept r r.mends s.edges) k d in
        let f = get_or edges i x in
        let not_there : list_any (λ g. g.key == f.key) (kept r r.mends s.edges) ≡ false = sym (stays_is f.key) ∙ none_of (λ g. stays s r g.key) edges h i x m in
        true≢false (sym (eq-eqb e.key f.key (sym same)) ∙ none_of (λ g. g.key == f.key) (kept r r.mends s.edges) not_there k d l)
      where
        none_of : {A : Type 0} (p : A → Bool) (xs : List A) → list_any p xs ≡ false → All (λ x. p x ≡ false) xs
        none_of p [] h = All-nil (λ x. p x ≡ false)
        none_of p (x ∷ xs) h = let parts = or_parts (p x) (list_any p xs) h in All-cons (λ y. p y ≡ false) x xs parts.0 (none_of p xs parts.1)

    -- then all edges differ in their keys
    own_apart : (are_in_order edges && not (list_any (λ e. stays s r e.key) edges)) ≡ true → AllPairs DifferInKey (kept r r.mends s.edges ++ edges)
    own_apart h =
        let parts = and_parts (are_in_order edges) (not (list_any (λ e. stays s r e.key) edges)) h in
        let own = own_keys (not-true (list_any (λ e. stays s r e.key) edges) parts.1) in
        AllPairs-append DifferInKey (kept r r.mends s.edges) edges (sorted_apart (λ (e : Edge). e.key) (kept r r.mends s.edges) stay_sorted) (sorted_apart (λ (e : Edge). e.key) edges (sym (ascend_by (λ e. e.key) edges) ∙ parts.0))
        (λ k d l i x m. differ_in_key (λ (e : Edge). e.key) (get_or (kept r r.mends s.edges) k d) (get_or edges i x) (own k d l i x m))

    -- and those of the finer slice are sorted
    both_sorted : (are_in_order edges && not (list_any (λ e. stays s r e.key) edges)) ≡ true → is_sorted_by edge_before (sort_by edge_before (all_edges_by r cut s.edges more)) ≡ true
    both_sorted h =
        let both = kept r r.mends s.edges ++ edges in
        let sorted = sort_by-is_sorted edge_before both (own_apart h) in
        ap (is_sorted_by edge_before) (sort_by-permuted edge_order (all_edges_by r cut s.edges more) (sort_by edge_before both) (λ k d l. tt) sorted
        (IsPermutation-trans (all_edges_by r cut s.edges more) both (sort_by edge_before both) (all-permutation edges moved) (sort_by-permutation edge_before both))) ∙ sorted

    -- where all keys differ the test passes
    module _ (rising : IsNonDecreasingBy (λ (e : Edge). e.key) edges) (differ : is_sorted_by edge_before (sort_by edge_before (all_edges_by r cut s.edges more)) ≡ true) where
      all_apart : AllPairs DifferInKey (kept r r.mends s.edges ++ edges)
      all_apart =
          let sorted = sort_by edge_before (all_edges_by r cut s.edges more) in
          AllPairs-permutation DifferInKey (differ_turned (λ (e : Edge). e.key)) sorted (kept r r.mends s.edges ++ edges)
          (IsPermutation-trans sorted (all_edges_by r cut s.edges more) (kept r r.mends s.edges ++ edges)
          (IsPermutation-sym (all_edges_by r cut s.edges more) sorted (sort_by-permutation edge_before (all_edges_by r cut s.edges more))) (all-permutation edges moved))
          (sorted_apart (λ (e : Edge). e.key) sorted differ)

      parted : (xs ys : List Edge) → AllPairs DifferInKey (xs ++ ys) → AllPairs DifferInKey ys × All (λ x. All (DifferInKey x) ys) xs
      parted [] ys h = (h, All-nil (λ x. All (DifferInKey x) ys))
      parted (x ∷ xs) ys h =
          let rest = parted xs ys (AllPairs-tail DifferInKey x (xs ++ ys) h) in
          (rest.0, All-cons (λ z. All (DifferInKey z) ys) x xs (All-back (DifferInKey x) xs ys (AllPairs-head DifferInKey x (xs ++ ys) h)) rest.1)

      test_passes : (are_in_order edges && not (list_any (λ e. stays s r e.key) edges)) ≡ true
      test_passes =
          let parts = parted (kept r r.mends s.edges) edges all_apart in
          both_true
          (ascend_by (λ e. e.key) edges ∙ sorted_from_adjacent edge_before edges (λ k d l.
          let le = rising k (k + 1) d (omega arith) l in
          let ne = keys_differ (λ (e : Edge). e.key) (get_or edges k d) (get_or edges (k + 1) d) (parts.0 k (k + 1) d (omega arith) l) in
          lt-ltb (get_or edges k d).key (get_or edges (k + 1) d).key (omega arith)))
          (not_from_false (list_any (λ e. stays s r e.key) edges) (list_any_none (λ e. stays s r e.key) edges (λ k d l.
          let f = get_or edges k d in
          stays_is f.key ∙ list_any_none (λ g. g.key == f.key) (kept r r.mends s.edges) (λ i x m.
          ne_eqb (get_or (kept r r.mends s.edges) i x).key f.key (keys_differ (λ (e : Edge). e.key) (get_or (kept r r.mends s.edges) i x) f (parts.1 i x m k d l))))))

    -- the test is that of the rule
    pub seventh : IsNonDecreasingBy (λ (e : Edge). e.key) edges → (are_in_order edges && not (list_any (λ e. stays s r e.key) edges)) ≡ is_sorted_by nat_lt (map (λ e. e.key) (sort_by edge_before (all_edges_by r cut s.edges more)))
    seventh rising = by (are_in_order edges && not (list_any (λ e. stays s r e.key) edges)) refl
      where
        by : (b : Bool) → (are_in_order edges && not (list_any (λ e. stays s r e.key) edges)) ≡ b → b ≡ is_sorted_by nat_lt (map (λ e. e.key) (sort_by edge_before (all_edges_by r cut s.edges more)))
        by true h =
            sym (ascend_by (λ e. e.key) (sort_by edge_before (all_edges_by r cut s.edges more)) ∙ both_sorted h)
        by false h = other (is_sorted_by edge_before (sort_by edge_before (all_edges_by r cut s.edges more))) refl
          where
            other : (c : Bool) → is_sorted_by edge_before (sort_by edge_before (all_edges_by r cut s.edges more)) ≡ c
                → false ≡ is_sorted_by nat_lt (map (λ e. e.key) (sort_by edge_before (all_edges_by r cut s.edges more)))
            other true e = absurd (true≢false (sym (test_passes rising e) ∙ h))
            other false e = sym (ascend_by (λ f. f.key) (sort_by edge_before (all_edges_by r cut s.edges more)) ∙ e)

    -- by the definition of those that stay
    pub both_apart : (are_in_order edges && not (list_any (λ e. stays s r e.key) edges)) ≡ true → AllPairs DifferInKey (staying r s.edges ++ edges)
    both_apart h = subst (λ (zs : List Edge). AllPairs DifferInKey (zs ++ edges)) stay_is (own_apart h)

    -- edges in the order of their keys, among which these are, are those of the finer slice
    pub undone_are : (all : List Edge) → is_sorted_by edge_before all ≡ true → IsPermutation (staying r s.edges ++ edges) all → sort_by edge_before (all_edges_by r cut s.edges more) ≡ all
    undone_are all sorted perm =
        sort_by-permuted edge_order (all_edges_by r cut s.edges more) all (λ k d l. tt) sorted
        (IsPermutation-trans (all_edges_by r cut s.edges more) (staying r s.edges ++ edges) all all_are perm)
