-- Entries in the order of their keys, seen as a list of what each stands for.
use Rattle.std.proofs.Common.{◌≡◌, Bor, ℕ, ◌+◌, Bool, true, false, cond, nat_lt, List, [], ◌∷◌, map, filter, get_or, All, Option, Some, None, refl, sym, ap, ◌∙◌, arith}
use Rattle.std.specs.Prelude.{◌==◌, find, not, is_some}
use Rattle.std.specs.List.{list_any}
use Rattle.std.specs.List.Sorted.{IsStrictlySortedBy}
use Rattle.std.specs.Option.{option_map, option_copied}
use Rattle.std.specs.Ordering.{nat_cmp, match_ordering, is_eq}
use Rattle.std.specs.declared.cmp.Ordering.{Ordering}
use Rattle.std.specs.declared.cmp.Ordering.TheVariants.{Less, Equal, Greater}
use Rattle.std.specs.Map.{lookup, remove_entry, keys_of}
use Rattle.std.specs.BTreeMap.{is_at, insert_entry}
use Rattle.std.proofs.lemmas.Bool.{ne_eqb, eqb-true, lt-ltb}
use Rattle.std.proofs.lemmas.Bool.Decides.{nat_tests}
use Rattle.std.proofs.lemmas.List.Elements.{All-head, All-tail}
use Rattle.std.proofs.lemmas.Map.Keys.{below_from_sorted}
use Rattle.lemmas.specs.Sorting.{is_sorted_by, insert_by}
use Rattle.lemmas.proofs.Sorting.{sorted_tail, sorted_from_adjacent}
use Rattle.client_replay.proofs.Found.{any_found, ascend_by, above_first}

-- a query finds its own key
pub at_is : (k q : ℕ) → is_at (nat_cmp k) q ≡ (q == k)
at_is k q = grind (arith, nat_tests)

pub at_other : (k q : ℕ) → (q ≡ k → ⊥) → is_at (nat_cmp k) q ≡ false
at_other k q ne = at_is k q ∙ ne_eqb q k ne

-- all elements pass
pub filter_all : {A : Type 0} (p : A → Bool) (xs : List A) → All (λ x. p x ≡ true) xs → filter p xs ≡ xs
filter_all p [] h = refl
filter_all p (x ∷ xs) h =
    ap (λ (b : Bool). cond b (x ∷ filter p xs) (filter p xs)) (All-head (λ y. p y ≡ true) x xs h)
    ∙ ap (λ zs. x ∷ zs) (filter_all p xs (All-tail (λ y. p y ≡ true) x xs h))

pub is_some-option_map : {A B : Type 0} (f : A → B) (o : Option A) → is_some (option_map f o) ≡ is_some o
is_some-option_map f None = refl
is_some-option_map f (Some x) = refl

-- what was found in a reference, seen as something else
pub map_copied : {A B : Type 0} (f : A → B) (o : Option (Bor A)) → option_map (λ x. f x.now) o ≡ option_map f (option_copied o)
map_copied f None = refl
map_copied f (Some x) = refl

module _ {X : Type 0} where
  -- the keys ascend
  abbrev pub Ascend : List (ℕ × X) → Type 0
  Ascend es = is_sorted_by (λ p q. nat_lt p.0 q.0) es ≡ true

  pub ascend : (es : List (ℕ × X)) → IsStrictlySortedBy nat_cmp (keys_of es) → Ascend es
  ascend es s =
      sym (ascend_by (λ p. p.0) es)
      ∙ sorted_from_adjacent nat_lt (keys_of es) (λ k d l. lt-ltb (get_or (keys_of es) k d) (get_or (keys_of es) (k + 1) d) (below_from_sorted (keys_of es) k (k + 1) d s (omega arith) l))

  others_above : (e : ℕ × X) (es : List (ℕ × X)) → Ascend (e ∷ es) → All (λ p. (p.0 == e.0) ≡ false) es
  others_above e es s i d l =
      let less = above_first (λ p. p.0) e es s i d l in
      ne_eqb (get_or es i d).0 e.0 (λ same. omega (arith, less, same))

  module _ {Y : Type 0} (f : ℕ × X → Y) where
    -- what has a key is what a look-up finds
    pub find_lookup : (has : ℕ → Y → Bool) → ((k : ℕ) (p : ℕ × X) → has k (f p) ≡ (p.0 == k)) → (k : ℕ) (es : List (ℕ × X))
        → option_map (λ v. f (k, v)) (lookup (is_at (nat_cmp k)) es) ≡ find (has k) (map f es)
    find_lookup has own k [] = refl
    find_lookup has own k (e ∷ es) =
        ap (λ (b : Bool). option_map (λ v. f (k, v)) (cond b (Some e.1) (lookup (is_at (nat_cmp k)) es))) (at_is k e.0)
        ∙ by (e.0 == k) refl (find_lookup has own k es)
        ∙ ap (λ (b : Bool). cond b (Some (f e)) (find (has k) (map f es))) (sym (own k e))
      where
        by : (b : Bool) → (e.0 == k) ≡ b → option_map (λ v. f (k, v)) (lookup (is_at (nat_cmp k)) es) ≡ find (has k) (map f es)
            → option_map (λ v. f (k, v)) (cond b (Some e.1) (lookup (is_at (nat_cmp k)) es)) ≡ cond b (Some (f e)) (find (has k) (map f es))
        by true same h = ap (λ (n : ℕ). Some (f (n, e.1))) (sym (eqb-true e.0 k same))
        by false other h = h

    pub any_lookup : (has : ℕ → Y → Bool) → ((k : ℕ) (p : ℕ × X) → has k (f p) ≡ (p.0 == k)) → (k : ℕ) (es : List (ℕ × X))
        → is_some (lookup (is_at (nat_cmp k)) es) ≡ list_any (has k) (map f es)
    any_lookup has own k es =
        sym (is_some-option_map (λ v. f (k, v)) (lookup (is_at (nat_cmp k)) es)) ∙ ap is_some (find_lookup has own k es) ∙ sym (any_found (has k) (map f es))

    -- an entry with a new key stands where its order has it
    pub inserted : (before : Y → Y → Bool) → ((p q : ℕ × X) → before (f p) (f q) ≡ nat_lt p.0 q.0) → (k : ℕ) (v : X) (es : List (ℕ × X))
        → lookup (is_at (nat_cmp k)) es ≡ None → map f (insert_entry nat_cmp es k v) ≡ insert_by before (f (k, v)) (map f es)
    inserted before own k v [] none = refl
    inserted before own k v (e ∷ es) none = by (nat_cmp k e.0) refl (inserted before own k v es)
      where
        less : nat_cmp k e.0 ≡ Less → nat_lt k e.0 ≡ true
        less o = grind (arith, nat_tests)

        more : nat_cmp k e.0 ≡ Greater → nat_lt k e.0 ≡ false
        more o = grind (arith, nat_tests)

        apart : nat_cmp k e.0 ≡ Greater → is_at (nat_cmp k) e.0 ≡ false
        apart o = ap is_eq o

        by : (o : Ordering) → nat_cmp k e.0 ≡ o → (lookup (is_at (nat_cmp k)) es ≡ None → map f (insert_entry nat_cmp es k v) ≡ insert_by before (f (k, v)) (map f es))
            → map f (match_ordering o ((k, v) ∷ e ∷ es) ((e.0, v) ∷ es) (e ∷ insert_entry nat_cmp es k v)) ≡ insert_by before (f (k, v)) (f e ∷ map f es)
        by Less o rest = sym (ap (λ (b : Bool). cond b (f (k, v) ∷ f e ∷ map f es) (f e ∷ insert_by before (f (k, v)) (map f es))) (own (k, v) e ∙ less o))
        by Equal o rest =
            let found : lookup (is_at (nat_cmp k)) (e ∷ es) ≡ Some e.1 = ap (λ (b : Bool). cond b (Some e.1) (lookup (is_at (nat_cmp k)) es)) (ap is_eq o) in
            absurd (some_is_not_none e.1 (sym found ∙ none))
          where
            some_is_not_none : (x : X) → Some x ≡ None → ⊥
            some_is_not_none x h = cc
        by Greater o rest =
            let later : lookup (is_at (nat_cmp k)) es ≡ None = sym (ap (λ (b : Bool). cond b (Some e.1) (lookup (is_at (nat_cmp k)) es)) (apart o)) ∙ none in
            ap (λ zs. f e ∷ zs) (rest later)
            ∙ sym (ap (λ (b : Bool). cond b (f (k, v) ∷ f e ∷ map f es) (f e ∷ insert_by before (f (k, v)) (map f es))) (own (k, v) e ∙ more o))

  -- without the entry of a key
  pub removed : (k : ℕ) (es : List (ℕ × X)) → Ascend es → remove_entry (is_at (nat_cmp k)) es ≡ filter (λ p. not (p.0 == k)) es
  removed k [] s = refl
  removed k (e ∷ es) s =
      ap (λ (b : Bool). cond b es (e ∷ remove_entry (is_at (nat_cmp k)) es)) (at_is k e.0)
      ∙ by (e.0 == k) refl (removed k es (sorted_tail (λ p q. nat_lt p.0 q.0) e es s))
    where
      by : (b : Bool) → (e.0 == k) ≡ b → remove_entry (is_at (nat_cmp k)) es ≡ filter (λ p. not (p.0 == k)) es
          → cond b es (e ∷ remove_entry (is_at (nat_cmp k)) es) ≡ cond (not b) (e ∷ filter (λ p. not (p.0 == k)) es) (filter (λ p. not (p.0 == k)) es)
      by true same h = sym (filter_all (λ p. not (p.0 == k)) es (λ i d l. ap not (ap (λ (n : ℕ). (get_or es i d).0 == n) (sym (eqb-true e.0 k same)) ∙ others_above e es s i d l)))
      by false other h = ap (λ zs. e ∷ zs) h

  -- a filter by the key, before or after
  pub filter-map : {Y : Type 0} (f : ℕ × X → Y) (p : ℕ × X → Bool) (q : Y → Bool) → ((e : ℕ × X) → q (f e) ≡ p e) → (es : List (ℕ × X)) → map f (filter p es) ≡ filter q (map f es)
  filter-map f p q own [] = refl
  filter-map f p q own (e ∷ es) =
      by (p e) (filter-map f p q own es) ∙ sym (ap (λ (b : Bool). cond b (f e ∷ filter q (map f es)) (filter q (map f es))) (own e))
    where
      by : (b : Bool) → map f (filter p es) ≡ filter q (map f es) → map f (cond b (e ∷ filter p es) (filter p es)) ≡ cond b (f e ∷ filter q (map f es)) (filter q (map f es))
      by true h = ap (λ zs. f e ∷ zs) h
      by false h = h
