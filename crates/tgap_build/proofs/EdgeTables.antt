-- Edges at the places of their keys.
use Rattle.std.proofs.Common.{◌≡◌, ◌≢◌, inl, inr, ℕ, zero, suc, ◌+◌, ◌<◌, ◌≤◌, ◌==◌, Bool, true, false, cond, not, ◌||◌, ◌&&◌, ◌-◌, List, [], ◌∷◌, ◌++◌, length, filter, get_or, take, All, AllPairs, Contains, IsPermutation, Option, Some, None, refl, sym, ap, ap₂, ◌∙◌, subst, append_assoc, arith}
use Rattle.std.specs.Prelude.{option_to_list, slice_set}
use Rattle.std.specs.List.{list_any}
use Rattle.std.specs.List.Sorted.{IsNonDecreasing}
use Rattle.std.proofs.lemmas.Bool.{cases_eq, cases_lt, eq-eqb, ne_eqb, false_from_ne_true}
use Rattle.std.proofs.lemmas.List.{append-nil, take_all, get_or-set_same, get_or-set_other, get_or_default}
use Rattle.std.proofs.lemmas.List.Elements.{filter-append}
use Rattle.std.proofs.lemmas.List.Kept.{AllPairs-cons}
use Rattle.std.proofs.lemmas.List.Sorted.{IsPermutation-append_comm, IsPermutation-append_left, IsPermutation-append_right, IsPermutation-trans}
use Rattle.lemmas.proofs.Members.{AllPairs-nil, filter_agree_on}
use Rattle.lemmas.proofs.Sorting.{AllPairs-permutation}
use Rattle.tgap_model.specs.declared.slice.Edge.{Edge}
use Rattle.map_laws.proofs.ChainMembers.{Among, among_right}
use Rattle.map_laws.proofs.Lists.{all_members, members_all}
use Rattle.grid_index.specs.Keyed.{edge_in, edges_in, AreAtKeys}
use Rattle.grid_index.specs.Live.{without_keys}
use Rattle.tgap_build.proofs.Filters.{filter_all, filter_both}
use Rattle.tgap_build.proofs.KeyedEdges.{pairs_across}

-- ---- places from one on

-- each edge stands so many places further on as its key
abbrev AreFrom : ℕ → List (Option Edge) → Type 0
AreFrom a places = (i : ℕ) (e : Edge) → edge_in places i ≡ Some e → e.key ≡ a + i

from_tail : (a : ℕ) (x : Option Edge) (xs : List (Option Edge)) → AreFrom a (x ∷ xs) → AreFrom (suc a) xs
from_tail a x xs h i e is = let k = h (suc i) e is in omega (arith, k)

from_keyed : (places : List (Option Edge)) → AreAtKeys places → AreFrom 0 places
from_keyed places h i e is = let k = h i e is in omega (arith, k)

each_from : (a : ℕ) (places : List (Option Edge)) → AreFrom a places → (e : Edge) → Among e (edges_in places) → a ≤ e.key
each_from a [] h e m = absurd m
each_from a (None ∷ xs) h e m = let r = each_from (suc a) xs (from_tail a None xs h) e m in omega (arith, r)
each_from a (Some x ∷ xs) h e (inl s) = let k = h 0 x refl in omega (arith, k, ap (λ (f : Edge). f.key) s)
each_from a (Some x ∷ xs) h e (inr m) = let r = each_from (suc a) xs (from_tail a (Some x) xs h) e m in omega (arith, r)

ascending_from : (a : ℕ) (places : List (Option Edge)) → AreFrom a places → AllPairs (λ (e f : Edge). e.key < f.key) (edges_in places)
ascending_from a [] h = AllPairs-nil (λ (e f : Edge). e.key < f.key)
ascending_from a (None ∷ xs) h = ascending_from (suc a) xs (from_tail a None xs h)
ascending_from a (Some x ∷ xs) h =
    AllPairs-cons (λ (e f : Edge). e.key < f.key) x (edges_in xs)
    (all_members (λ (f : Edge). x.key < f.key) (edges_in xs) (λ f m.
    let l = each_from (suc a) xs (from_tail a (Some x) xs h) f m in
    let k = h 0 x refl in
    omega (arith, l, k))) (ascending_from (suc a) xs (from_tail a (Some x) xs h))

-- the edges stand in order of key
pub ascending : (places : List (Option Edge)) → AreAtKeys places → AllPairs (λ (e f : Edge). e.key < f.key) (edges_in places)
ascending places h = ascending_from 0 places (from_keyed places h)

pub at_among : (places : List (Option Edge)) (i : ℕ) (e : Edge) → edge_in places i ≡ Some e → Among e (edges_in places)
at_among [] i e is = absurd cc
at_among (None ∷ xs) zero e is = absurd cc
at_among (Some x ∷ xs) zero e is = inl (some_injective x e is)
  where
    some_injective : (x e : Edge) → Some x ≡ Some e → x ≡ e
    some_injective x e is = ap (λ (o : Option Edge). elim o [ None ↦ x | Some y ↦ y ]) is
at_among (x ∷ xs) (suc i) e is = among_right (option_to_list x) (edges_in xs) e (at_among xs i e is)

-- ---- a key goes

-- an edge with another key stays
pub stays : (k : ℕ) (e : Edge) → e.key ≢ k → not (list_any (λ j. j == e.key) (k ∷ [])) ≡ true
stays k e ne = ap (λ (b : Bool). not (b || false)) (ne_eqb k e.key (λ s. ne (sym s)))

goes : (k : ℕ) (e : Edge) → e.key ≡ k → not (list_any (λ j. j == e.key) (k ∷ [])) ≡ false
goes k e s = ap (λ (b : Bool). not (b || false)) (eq-eqb k e.key (sym s))

none_goes : (k a : ℕ) (xs : List (Option Edge)) → k < a → AreFrom a xs → without_keys (k ∷ []) (edges_in xs) ≡ edges_in xs
none_goes k a xs l h =
    filter_all (λ e. not (list_any (λ j. j == e.key) (k ∷ []))) (edges_in xs) (λ e m. let r = each_from a xs h e m in stays k e (λ s. absurd (omega (arith, l, r, s))))

cleared_from : (a : ℕ) (places : List (Option Edge)) (i : ℕ) → AreFrom a places → edges_in (slice_set places i None) ≡ without_keys ((a + i) ∷ []) (edges_in places)
cleared_from a [] i h = refl
cleared_from a (None ∷ xs) zero h = sym (none_goes (a + 0) (suc a) xs (omega arith) (from_tail a None xs h))
cleared_from a (Some x ∷ xs) zero h =
    sym (none_goes (a + 0) (suc a) xs (omega arith) (from_tail a (Some x) xs h))
    ∙ ap (λ (b : Bool). cond b (x ∷ without_keys ((a + 0) ∷ []) (edges_in xs)) (without_keys ((a + 0) ∷ []) (edges_in xs))) (sym (goes (a + 0) x (h 0 x refl)))
cleared_from a (None ∷ xs) (suc i) h =
    cleared_from (suc a) xs i (from_tail a None xs h) ∙ (let k : suc a + i ≡ a + suc i = omega arith in ap (λ (n : ℕ). without_keys (n ∷ []) (edges_in xs)) k)
cleared_from a (Some x ∷ xs) (suc i) h =
    let k : suc a + i ≡ a + suc i = omega arith in
    ap (λ (es : List Edge). x ∷ es) (cleared_from (suc a) xs i (from_tail a (Some x) xs h) ∙ ap (λ (n : ℕ). without_keys (n ∷ []) (edges_in xs)) k)
    ∙ ap (λ (b : Bool). cond b (x ∷ without_keys ((a + suc i) ∷ []) (edges_in xs)) (without_keys ((a + suc i) ∷ []) (edges_in xs)))
    (sym (stays (a + suc i) x (λ s. let k = h 0 x refl in absurd (omega (arith, k, s)))))

-- its place is emptied
pub cleared : (places : List (Option Edge)) (k : ℕ) → AreAtKeys places → edges_in (slice_set places k None) ≡ without_keys (k ∷ []) (edges_in places)
cleared places k h = cleared_from 0 places k (from_keyed places h) ∙ (let e : 0 + k ≡ k = omega arith in ap (λ (n : ℕ). without_keys (n ∷ []) (edges_in places)) e)

-- one key after the other
pub without_more : (keys : List ℕ) (k : ℕ) (edges : List Edge) → without_keys (k ∷ []) (without_keys keys edges) ≡ without_keys (keys ++ k ∷ []) edges
without_more keys k edges =
    filter_both (λ e. not (list_any (λ j. j == e.key) (k ∷ []))) (λ e. not (list_any (λ j. j == e.key) keys)) edges
    ∙ filter_agree_on (λ e. not (list_any (λ j. j == e.key) (k ∷ [])) && not (list_any (λ j. j == e.key) keys)) (λ e. not (list_any (λ j. j == e.key) (keys ++ k ∷ []))) edges
    (all_members _ edges (λ e m. split (λ j. j == e.key) keys))
  where
    split : (p : ℕ → Bool) (ks : List ℕ) → (not (list_any p (k ∷ [])) && not (list_any p ks)) ≡ not (list_any p (ks ++ k ∷ []))
    split p [] = by (p k)
      where
        by : (b : Bool) → (not (b || false) && true) ≡ not (b || false)
        by true = refl
        by false = refl
    split p (j ∷ ks) = by (p j) (p k) (split p ks)
      where
        by : (b c : Bool) → (not (c || false) && not (list_any p ks)) ≡ not (list_any p (ks ++ k ∷ []))
            → (not (c || false) && not (b || list_any p ks)) ≡ not (b || list_any p (ks ++ k ∷ []))
        by true true h = refl
        by true false h = refl
        by false c h = h

-- ---- an edge comes

pub keyed_put : (places : List (Option Edge)) (e : Edge) → e.key < length places → AreAtKeys places → AreAtKeys (slice_set places e.key (Some e))
keyed_put places e within h j f is = elim (cases_eq j e.key) [
  | inl s ↦ ap (λ (o : Option Edge). elim o [ None ↦ 0 | Some g ↦ g.key ])
      (sym is ∙ ap (edge_in (slice_set places e.key (Some e))) s ∙ get_or-set_same places e.key (Some e) None within) ∙ sym s
  | inr ne ↦ h j f (sym (get_or-set_other places e.key j (Some e) None ne) ∙ is)
]

put_moved : (places : List (Option Edge)) (i : ℕ) (e : Edge) → i < length places → IsPermutation (edges_in (slice_set places i None) ++ e ∷ []) (edges_in (slice_set places i (Some e)))
put_moved [] i e l = absurd (omega (arith, l))
put_moved (x ∷ xs) zero e l = IsPermutation-append_comm (edges_in xs) (e ∷ [])
put_moved (x ∷ xs) (suc i) e l =
    subst (λ (es : List Edge). IsPermutation es (option_to_list x ++ edges_in (slice_set xs i (Some e))))
    (sym (append_assoc (option_to_list x) (edges_in (slice_set xs i None)) (e ∷ [])))
    (IsPermutation-append_right (option_to_list x) (edges_in (slice_set xs i None) ++ e ∷ []) (edges_in (slice_set xs i (Some e))) (put_moved xs i e (omega (arith, l))))

-- it takes the place of the one with its key
pub put_there : (places : List (Option Edge)) (e : Edge) → e.key < length places → AreAtKeys places
    → IsPermutation (without_keys (e.key ∷ []) (edges_in places) ++ e ∷ []) (edges_in (slice_set places e.key (Some e)))
put_there places e within h =
    subst (λ (es : List Edge). IsPermutation (es ++ e ∷ []) (edges_in (slice_set places e.key (Some e)))) (cleared places e.key h) (put_moved places e.key e within)

-- Edges whose keys differ: one of those that are left has come.
pub record IsPutting (all now left : List Edge) : Type 0 where
  pub moved : IsPermutation all (now ++ left)
  pub apart : AllPairs (λ (e f : Edge). e.key ≢ f.key) (now ++ left)

pub put_next : (all now next left : List Edge) (e : Edge) → IsPutting all now (e ∷ left) → IsPermutation (without_keys (e.key ∷ []) now ++ e ∷ []) next → IsPutting all next left
put_next all now next left e h put = record {
  moved = IsPermutation-trans all (now ++ e ∷ left) (next ++ left) h.moved both;
  apart = AllPairs-permutation (λ (f g : Edge). f.key ≢ g.key) (λ f g ne s. ne (sym s)) (now ++ e ∷ left) (next ++ left) both h.apart;
}
  where
    new : without_keys (e.key ∷ []) now ≡ now
    new =
        filter_all (λ f. not (list_any (λ j. j == f.key) (e.key ∷ []))) now
        (λ f m. stays e.key f (pairs_across (λ (f g : Edge). f.key ≢ g.key) now (e ∷ left) h.apart f e m (inl refl)))

    both : IsPermutation (now ++ e ∷ left) (next ++ left)
    both =
        subst (λ (es : List Edge). IsPermutation es (next ++ left)) (append_assoc now (e ∷ []) left)
        (IsPermutation-append_left left (now ++ e ∷ []) next (subst (λ (es : List Edge). IsPermutation (es ++ e ∷ []) next) new put))

-- ---- some are looked for

module _ (p : Edge → Bool) where
  one_more : (places : List (Option Edge)) (i : ℕ) → filter p (edges_in (take (suc i) places)) ≡ filter p (edges_in (take i places)) ++ filter p (option_to_list (edge_in places i))
  one_more [] zero = refl
  one_more [] (suc i) = refl
  one_more (x ∷ xs) zero = ap (filter p) (append-nil (option_to_list x))
  one_more (x ∷ xs) (suc i) =
      filter-append p (option_to_list x) (edges_in (take (suc i) xs))
      ∙ ap (λ (es : List Edge). filter p (option_to_list x) ++ es) (one_more xs i)
      ∙ sym (append_assoc (filter p (option_to_list x)) (filter p (edges_in (take i xs))) (filter p (option_to_list (edge_in xs i))))
      ∙ ap (λ (es : List Edge). es ++ filter p (option_to_list (edge_in xs i))) (sym (filter-append p (option_to_list x) (edges_in (take i xs))))

  none_at : (x : Option Edge) → ((e : Edge) → x ≡ Some e → p e ≡ false) → filter p (option_to_list x) ≡ []
  none_at None h = refl
  none_at (Some e) h = ap (λ (b : Bool). cond b (e ∷ []) []) (h e refl)

  -- none passes from one place up to another
  none_between : (places : List (Option Edge)) (a n : ℕ) → ((i : ℕ) (e : Edge) → a ≤ i → i < a + n → edge_in places i ≡ Some e → p e ≡ false)
      → filter p (edges_in (take (a + n) places)) ≡ filter p (edges_in (take a places))
  none_between places a zero h = let e : a + 0 ≡ a = omega arith in ap (λ (m : ℕ). filter p (edges_in (take m places))) e
  none_between places a (suc n) h =
      let e : a + suc n ≡ suc (a + n) = omega arith in
      ap (λ (m : ℕ). filter p (edges_in (take m places))) e ∙ one_more places (a + n)
      ∙ ap₂ (λ (es fs : List Edge). es ++ fs) (none_between places a n (λ i e le l is. h i e le (omega (arith, l)) is))
      (none_at (edge_in places (a + n)) (λ e is. h (a + n) e (omega arith) (omega arith) is))
      ∙ append-nil (filter p (edges_in (take a places)))

  module _ (places : List (Option Edge)) (keys : List ℕ) (keyed : AreAtKeys places) (up : IsNonDecreasing keys)
      (listed : All (λ e. p e ≡ true → Contains keys e.key) (edges_in places)) (i next : ℕ) (passed : (j : ℕ) → j < i → get_or keys j 0 < next) where
    -- none passes from the next place on up to the keys that are left
    none_here : (m : ℕ) (e : Edge) → next ≤ m → ((j : ℕ) → i ≤ j → j < length keys → m < get_or keys j 0) → edge_in places m ≡ Some e → p e ≡ false
    none_here m e le later is = false_from_ne_true (p e) (λ t.
        let c = members_all (λ (e : Edge). p e ≡ true → Contains keys e.key) (edges_in places) e listed (at_among places m e is) t in
        let here : get_or keys c.0 0 ≡ m = get_or_default keys c.0 0 e.key c.1 ∙ c.2 ∙ keyed m e is in
        elim (cases_lt c.0 i) [
          | inl l ↦ let q = passed c.0 l in absurd (omega (arith, q, here, le))
          | inr g ↦ let q = later c.0 g c.1 in absurd (omega (arith, q, here))
        ])

    -- so it is the one at the next key
    pub found_next : i < length keys → next ≤ get_or keys i 0
        → filter p (edges_in (take (get_or keys i 0 + 1) places)) ≡ filter p (edges_in (take next places)) ++ filter p (option_to_list (edge_in places (get_or keys i 0)))
    found_next within le =
        let k = get_or keys i 0 in
        let e : k + 1 ≡ suc k = omega arith in
        let d : k ≡ next + (k - next) = omega (arith, le) in
        ap (λ (m : ℕ). filter p (edges_in (take m places))) e ∙ one_more places k
        ∙ ap (λ (es : List Edge). es ++ filter p (option_to_list (edge_in places k)))
        (ap (λ (m : ℕ). filter p (edges_in (take m places))) d
        ∙ none_between places next (k - next) (λ m e le' l is. none_here m e le' (λ j g s. let o = up i j 0 g s in omega (arith, o, l, d)) is))

    -- and then none is left
    pub found_all : length keys ≤ i → filter p (edges_in (take next places)) ≡ filter p (edges_in places)
    found_all done =
        sym (none_between places next (length places) (λ m e le l is. none_here m e le (λ j g s. absurd (omega (arith, g, s, done))) is))
        ∙ ap (λ (es : List (Option Edge)). filter p (edges_in es)) (take_all (next + length places) places (omega arith))
