-- Two parts of a list in the order of its keys, each member once, are the members of either.
use Rattle.std.proofs.Common.{◌≡◌, inl, inr, ℕ, ◌==◌, ◌&&◌, ◌||◌, Bool, true, false, not, nat_lt, cond, List, [], ◌∷◌, ◌++◌, filter, IsPermutation, eq-eqb, refl, sym, ap, ap₂, ◌∙◌, subst₂, true≢false, arith}
use Rattle.std.specs.Prelude.{⊤}
use Rattle.std.specs.List.{list_any}
use Rattle.std.proofs.lemmas.Bool.{eqb-true, false_from_ne_true}
use Rattle.std.proofs.lemmas.List.Sorted.{IsPermutation-filter_both, IsPermutation-sym}
use Rattle.lemmas.specs.Sorting.{sort_by, is_sorted_by}
use Rattle.lemmas.proofs.Orders.{nat_lt_order, order_by_key}
use Rattle.lemmas.proofs.Sorting.{filter-is_sorted, sort_by-permuted, sorted_tail}
use Rattle.map_laws.proofs.ChainMembers.{Among, any_among, filter_among, sorted_below}
use Rattle.map_laws.proofs.Lists.{all_members, any_from, kept_among, among_kept}
use Rattle.window_laws.proofs.Filters.{filter_agree, filter_twice}

module _ {A : Type 0} (key : A → ℕ) where
  abbrev before : A → A → Bool
  before x y = nat_lt (key x) (key y)

  -- members with one key are one
  one_by_key : (xs : List A) → is_sorted_by before xs ≡ true → (x y : A) → Among x xs → Among y xs → key x ≡ key y → x ≡ y
  one_by_key [] s x y n o e = absurd n
  one_by_key (z ∷ xs) s x y n o e = by n o (λ a b. one_by_key xs (sorted_tail before z xs s) x y a b e)
    where
      by : Among x (z ∷ xs) → Among y (z ∷ xs) → (Among x xs → Among y xs → x ≡ y) → x ≡ y
      by (inl a) (inl b) rest = sym a ∙ b
      by (inl a) (inr b) rest = let below = sorted_below key z xs y s b in let same : key z ≡ key y = ap key a ∙ e in absurd (omega (arith, below, same))
      by (inr a) (inl b) rest = let below = sorted_below key z xs x s a in let same : key x ≡ key z = e ∙ ap key (sym b) in absurd (omega (arith, below, same))
      by (inr a) (inr b) rest = rest a b

  module _ (p q : A → Bool) (xs : List A) (sorted : is_sorted_by before xs ≡ true) where
    -- a member of the list is found by its key among those that pass exactly where it passes
    key_found : (x : A) → Among x xs → list_any (λ y. key y == key x) (filter p xs) ≡ p x
    key_found x n = by (p x) refl
      where
        by : (b : Bool) → p x ≡ b → list_any (λ y. key y == key x) (filter p xs) ≡ b
        by true e = any_from (λ y. key y == key x) (filter p xs) x (among_kept p xs x n e) (eq-eqb (key x) (key x) refl)
        by false e = false_from_ne_true (list_any (λ y. key y == key x) (filter p xs)) (λ t.
            let g = any_among (λ y. key y == key x) (filter p xs) t in
            let same : g.0 ≡ x = one_by_key xs sorted g.0 x (kept_among p xs g.0 g.1) n (eqb-true _ _ g.2) in
            true≢false (sym (filter_among p xs g.0 g.1) ∙ ap p same ∙ e))

    -- what the second part adds
    added : filter (λ x. not (list_any (λ y. key y == key x) (filter p xs))) (filter q xs) ≡ filter (λ x. q x && not (p x)) xs
    added =
        filter_twice q (λ x. not (list_any (λ y. key y == key x) (filter p xs))) xs
        ∙ filter_agree (λ x. q x && not (list_any (λ y. key y == key x) (filter p xs))) (λ x. q x && not (p x)) xs
        (λ x n. ap (λ (b : Bool). q x && not b) (key_found x n))

    abbrev either : A → Bool
    either x = p x || q x

    first_of_either : filter p (filter either xs) ≡ filter p xs
    first_of_either = filter_twice either p xs ∙ filter_agree (λ x. either x && p x) p xs (λ x n. by (p x) (q x))
      where
        by : (a b : Bool) → ((a || b) && a) ≡ a
        by true b = refl
        by false true = refl
        by false false = refl

    rest_of_either : filter (λ x. not (p x)) (filter either xs) ≡ filter (λ x. q x && not (p x)) xs
    rest_of_either =
        filter_twice either (λ x. not (p x)) xs
        ∙ filter_agree (λ x. either x && not (p x)) (λ x. q x && not (p x)) xs (λ x n. by (p x) (q x))
      where
        by : (a b : Bool) → ((a || b) && not a) ≡ (b && not a)
        by true true = refl
        by true false = refl
        by false true = refl
        by false false = refl

    -- both parts together, moved
    parts_moved : IsPermutation (filter p xs ++ filter (λ x. not (list_any (λ y. key y == key x) (filter p xs))) (filter q xs)) (filter either xs)
    parts_moved =
        subst₂ (λ (ys zs : List A). IsPermutation (ys ++ zs) (filter either xs)) first_of_either (rest_of_either ∙ sym added)
        (IsPermutation-sym (filter either xs) (filter p (filter either xs) ++ filter (λ x. not (p x)) (filter either xs))
        (IsPermutation-filter_both p (λ x. not (p x)) (λ x. refl) (filter either xs)))

    pub parts_joined : sort_by (λ x y. nat_lt (key x) (key y)) (filter p xs ++ filter (λ x. not (list_any (λ y. key y == key x) (filter p xs))) (filter q xs))
        ≡ filter (λ x. p x || q x) xs
    parts_joined =
        sort_by-permuted {P = λ (x : A). ⊤} {before = before} (order_by_key key nat_lt_order)
        (filter p xs ++ filter (λ x. not (list_any (λ y. key y == key x) (filter p xs))) (filter q xs)) (filter either xs)
        (all_members (λ (x : A). ⊤) (filter p xs ++ filter (λ x. not (list_any (λ y. key y == key x) (filter p xs))) (filter q xs)) (λ x o. tt))
        (filter-is_sorted {P = λ (x : A). ⊤} {before = before} (order_by_key key nat_lt_order) either xs (all_members (λ (x : A). ⊤) xs (λ x o. tt)) sorted)
        parts_moved

-- a member of either part passes a test exactly where a member of one or of the other does
pub any_of_either : {A : Type 0} (t p q : A → Bool) (xs : List A)
    → (list_any t (filter p xs) || list_any t (filter q xs)) ≡ list_any t (filter (λ x. p x || q x) xs)
any_of_either t p q [] = refl
any_of_either {A} t p q (x ∷ xs) = by (p x) (q x) (any_of_either t p q xs)
  where
    both : (u a b c : Bool) → (a || b) ≡ c → ((u || a) || (u || b)) ≡ (u || c)
    both true a b c e = refl
    both false a b c e = e

    first : (u a b c : Bool) → (a || b) ≡ c → ((u || a) || b) ≡ (u || c)
    first true a b c e = refl
    first false a b c e = e

    second : (u a b c : Bool) → (a || b) ≡ c → (a || (u || b)) ≡ (u || c)
    second true true b c e = refl
    second true false b c e = refl
    second false a b c e = e

    by : (a b : Bool) → (list_any t (filter p xs) || list_any t (filter q xs)) ≡ list_any t (filter (λ x. p x || q x) xs)
        → (list_any t (cond a (x ∷ filter p xs) (filter p xs)) || list_any t (cond b (x ∷ filter q xs) (filter q xs)))
        ≡ list_any t (cond (a || b) (x ∷ filter (λ x. p x || q x) xs) (filter (λ x. p x || q x) xs))
    by true true e = both (t x) (list_any t (filter p xs)) (list_any t (filter q xs)) (list_any t (filter (λ x. p x || q x) xs)) e
    by true false e = first (t x) (list_any t (filter p xs)) (list_any t (filter q xs)) (list_any t (filter (λ x. p x || q x) xs)) e
    by false true e = second (t x) (list_any t (filter p xs)) (list_any t (filter q xs)) (list_any t (filter (λ x. p x || q x) xs)) e
    by false false e = e
