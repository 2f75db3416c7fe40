-- Edges in ascending order of key, and the keys of some of them.
use Rattle.std.proofs.Common.{◌≡◌, ◌≢◌, inl, inr, ℕ, ◌<◌, ◌≤◌, ◌==◌, Bool, true, false, nat_lt, List, [], ◌∷◌, ◌++◌, map, filter, get_or, All, AllPairs, Contains, IsPermutation, refl, sym, ap, ◌∙◌, subst, true≢false, eq-eqb, arith}
use Rattle.std.specs.Prelude.{⊤}
use Rattle.std.specs.List.{list_any}
use Rattle.std.specs.List.Sorted.{IsNonDecreasingBy}
use Rattle.std.proofs.lemmas.Bool.{cases_lt, lt-ltb, eqb-true, false_from_ne_true}
use Rattle.std.proofs.lemmas.List.Elements.{All-map}
use Rattle.std.proofs.lemmas.List.Kept.{AllPairs-cons}
use Rattle.std.proofs.lemmas.List.Sorted.{Contains-permutation, IsPermutation-sym}
use Rattle.lemmas.specs.Sorting.{is_sorted_by, IsStrictOrderOn}
use Rattle.lemmas.proofs.Orders.{nat_lt_order, order_by_key}
use Rattle.lemmas.proofs.Members.{AllPairs-nil, AllPairs-head, AllPairs-tail, related_members}
use Rattle.lemmas.proofs.Sorting.{sorted_cons, sorted_permutation, AllPairs-permutation}
use Rattle.tgap_model.specs.declared.slice.Edge.{Edge}
use Rattle.map_laws.proofs.ChainMembers.{Among, any_among, filter_among, among_right, append_among, sorted_same}
use Rattle.map_laws.proofs.Lists.{all_members, members_all, any_from, kept_among, among_kept, map_among, among_map}
use Rattle.removal_laws.proofs.ChainEnds.{contained, among_contained}
use Rattle.grid_index.specs.Live.{keys}

-- ---- pairs

pub pairs_mapped : {A B : Type 0} (R : B → B → Type 0) (f : A → B) (xs : List A) → AllPairs (λ x y. R (f x) (f y)) xs → AllPairs R (map f xs)
pairs_mapped R f [] h = AllPairs-nil R
pairs_mapped R f (x ∷ xs) h =
    AllPairs-cons R (f x) (map f xs) (All-map (R (f x)) f xs (AllPairs-head (λ x y. R (f x) (f y)) x xs h))
    (pairs_mapped R f xs (AllPairs-tail (λ x y. R (f x) (f y)) x xs h))

pub pairs_across : {A : Type 0} (R : A → A → Type 0) (xs ys : List A) → AllPairs R (xs ++ ys) → (x y : A) → Among x xs → Among y ys → R x y
pairs_across R [] ys h x y m n = absurd m
pairs_across R (z ∷ xs) ys h x y (inl e) n = subst (λ w. R w y) e (members_all (R z) (xs ++ ys) y (AllPairs-head R z (xs ++ ys) h) (among_right xs ys y n))
pairs_across R (z ∷ xs) ys h x y (inr m) n = pairs_across R xs ys (AllPairs-tail R z (xs ++ ys) h) x y m n

pub pairs_both : {A : Type 0} (R : A → A → Type 0) (xs ys : List A) → AllPairs R xs → AllPairs R ys → ((x y : A) → Among x xs → Among y ys → R x y) → AllPairs R (xs ++ ys)
pairs_both R [] ys a b across = b
pairs_both R (x ∷ xs) ys a b across =
    AllPairs-cons R x (xs ++ ys)
    (all_members (R x) (xs ++ ys) (λ y m. elim (append_among xs ys y m) [
      | inl n ↦ members_all (R x) xs y (AllPairs-head R x xs a) n
      | inr n ↦ across x y (inl refl) n
    ]))
    (pairs_both R xs ys (AllPairs-tail R x xs a) b (λ y z m n. across y z (inr m) n))

-- what ascends does not fall
pub nondecreasing : {A : Type 0} (f : A → ℕ) (xs : List A) → AllPairs (λ x y. f x < f y) xs → IsNonDecreasingBy f xs
nondecreasing f xs a i j d l s = elim (cases_lt i j) [
  | inl less ↦ (let b = a i j d less s in omega (arith, b))
  | inr more ↦ (let same : i ≡ j = omega (arith, l, more) in omega (arith, ap (λ (n : ℕ). f (get_or xs n d)) same))
]

-- ---- ascending edges

abbrev pub Ascend : List Edge → Type 0
Ascend edges = AllPairs (λ (e f : Edge). e.key < f.key) edges

abbrev by_key : Edge → Edge → Bool
by_key e f = nat_lt e.key f.key

key_order : IsStrictOrderOn (λ (e : Edge). ⊤) (λ (e f : Edge). nat_lt e.key f.key)
key_order = order_by_key (λ (e : Edge). e.key) nat_lt_order

pub sorted_from_pairs : {A : Type 0} (before : A → A → Bool) (xs : List A) → AllPairs (λ x y. before x y ≡ true) xs → is_sorted_by before xs ≡ true
sorted_from_pairs before [] h = refl
sorted_from_pairs before (x ∷ xs) h =
    sorted_cons before x xs (AllPairs-head (λ x y. before x y ≡ true) x xs h) (sorted_from_pairs before xs (AllPairs-tail (λ x y. before x y ≡ true) x xs h))

pub sorted : (edges : List Edge) → Ascend edges → is_sorted_by (λ (e f : Edge). nat_lt e.key f.key) edges ≡ true
sorted edges a = sorted_from_pairs (λ (e f : Edge). nat_lt e.key f.key) edges (λ i j d l s. lt-ltb (get_or edges i d).key (get_or edges j d).key (a i j d l s))

-- members that were put in order of a number which differs for each two of them are another list in that order with the same members
pub in_order_same : {A : Type 0} (f : A → ℕ) (raw sorted whole : List A) → IsPermutation raw sorted → IsNonDecreasingBy f sorted → AllPairs (λ x y. f x ≢ f y) raw
    → is_sorted_by (λ x y. nat_lt (f x) (f y)) whole ≡ true → ((x : A) → Among x raw → Among x whole) → ((x : A) → Among x whole → Among x raw) → sorted ≡ whole
in_order_same {A} f raw sorted whole moved order apart ascend there back =
    sorted_same f sorted whole (sorted_from_pairs (λ x y. nat_lt (f x) (f y)) sorted strictly) ascend
    (λ x m. there x (among_contained raw x (Contains-permutation sorted raw x (IsPermutation-sym raw sorted moved) (contained sorted x m))))
    (λ x m. among_contained sorted x (Contains-permutation raw sorted x moved (contained raw x (back x m))))
  where
    differ : AllPairs (λ x y. f x ≢ f y) sorted
    differ = AllPairs-permutation (λ x y. f x ≢ f y) (λ x y ne e. ne (sym e)) raw sorted moved apart

    strictly : AllPairs (λ x y. nat_lt (f x) (f y) ≡ true) sorted
    strictly i j d l s =
        let le : f (get_or sorted i d) ≤ f (get_or sorted j d) = order i j d (omega (arith, l)) s in
        let ne : f (get_or sorted i d) ≢ f (get_or sorted j d) = differ i j d l s in
        lt-ltb (f (get_or sorted i d)) (f (get_or sorted j d)) (omega arith)

-- two such lists of the same edges are one
pub ascending_same : (xs ys : List Edge) → Ascend xs → Ascend ys → IsPermutation xs ys → xs ≡ ys
ascending_same xs ys a b moved = sorted_permutation key_order xs ys (λ k d l. tt) (sorted xs a) (sorted ys b) moved

-- one key, one edge
pub same_key : (edges : List Edge) → Ascend edges → (e f : Edge) → Among e edges → Among f edges → e.key ≡ f.key → e ≡ f
same_key edges a e f m n k = elim (related_members (λ (x y : Edge). x.key < y.key) edges a e f (contained edges e m) (contained edges f n)) [
  | inl s ↦ s
  | inr s ↦ absurd (elim s [ inl l ↦ omega (arith, l, k) | inr l ↦ omega (arith, l, k) ])
]

-- ---- the keys of some

module _ (edges : List Edge) (a : Ascend edges) (p : Edge → Bool) where
  -- the keys of those that pass the test tell which do
  pub listed : (e : Edge) → Among e edges → list_any (λ k. k == e.key) (keys (filter p edges)) ≡ p e
  listed e m = by (p e) refl
    where
      by : (b : Bool) → p e ≡ b → list_any (λ k. k == e.key) (keys (filter p edges)) ≡ b
      by true t =
          any_from (λ k. k == e.key) (keys (filter p edges)) e.key (among_map (λ (f : Edge). f.key) (filter p edges) e (among_kept p edges e m t)) (eq-eqb e.key e.key refl)
      by false t = false_from_ne_true (list_any (λ k. k == e.key) (keys (filter p edges))) (λ any.
          let k = any_among (λ k. k == e.key) (keys (filter p edges)) any in
          let f = map_among (λ (f : Edge). f.key) (filter p edges) k.0 k.1 in
          let same = same_key edges a f.0 e (kept_among p edges f.0 f.1) m (f.2 ∙ eqb-true k.0 e.key k.2) in
          true≢false (sym (filter_among p edges f.0 f.1) ∙ ap p same ∙ t))

  pub gone_there : All (Contains (keys edges)) (keys (filter p edges))
  gone_there = all_members (Contains (keys edges)) (keys (filter p edges)) (λ k m.
      let e = map_among (λ (f : Edge). f.key) (filter p edges) k m in
      subst (Contains (keys edges)) e.2 (contained (keys edges) e.0.key (among_map (λ (f : Edge). f.key) edges e.0 (kept_among p edges e.0 e.1))))
