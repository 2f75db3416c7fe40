-- What differs in its key.
use Rattle.std.proofs.Common.{◌≡◌, ◌⊎◌, ⊎_elim, inl, inr, ℕ, ◌<◌, Bool, true, false, ◌||◌, nat_lt, List, get_or, AllPairs, refl, sym, ap, arith}
use Rattle.std.specs.Prelude.{⊤}
use Rattle.std.proofs.lemmas.Bool.{lt-ltb, ltb-true, or_cases, or_right, cases_order}
use Rattle.lemmas.specs.Sorting.{is_sorted_by, IsStrictOrderOn}
use Rattle.lemmas.proofs.Sorting.{sorted_pairs}
use Rattle.lemmas.proofs.Orders.{nat_lt_order, order_by_key}
use Rattle.tgap_model.specs.declared.slice.Edge.{Edge}
use Rattle.tgap_model.specs.Records.{edge_before}
use Rattle.client_replay.specs.Working.{DifferBy}

module _ {A : Type 0} (key : A → ℕ) where
  pub key_order : IsStrictOrderOn (λ (x : A). ⊤) (λ x y. nat_lt (key x) (key y))
  key_order = order_by_key key nat_lt_order

  pub keys_differ : (x y : A) → DifferBy key x y → key x ≡ key y → ⊥
  keys_differ x y h same =
      ⊎_elim (λ t. let less = ltb-true (key x) (key y) t in omega (arith, same, less)) (λ t. let less = ltb-true (key y) (key x) t in omega (arith, same, less))
      (or_cases (nat_lt (key x) (key y)) (nat_lt (key y) (key x)) h)

  pub differ_in_key : (x y : A) → (key y ≡ key x → ⊥) → DifferBy key x y
  differ_in_key x y ne = by (cases_order (key x) (key y))
    where
      by : (key x ≡ key y) ⊎ ((key x < key y) ⊎ (key y < key x)) → DifferBy key x y
      by (inl same) = absurd (ne (sym same))
      by (inr (inl less)) = ap (λ (b : Bool). b || nat_lt (key y) (key x)) (lt-ltb (key x) (key y) less)
      by (inr (inr more)) = or_right (nat_lt (key x) (key y)) (nat_lt (key y) (key x)) (lt-ltb (key y) (key x) more)

  pub differ_turned : (x y : A) → DifferBy key x y → DifferBy key y x
  differ_turned x y h = by (nat_lt (key x) (key y)) (nat_lt (key y) (key x)) h
    where
      by : (a b : Bool) → (a || b) ≡ true → (b || a) ≡ true
      by a true h = refl
      by true false h = refl
      by false false h = h

  -- what stands in the order of its keys
  pub sorted_apart : (xs : List A) → is_sorted_by (λ x y. nat_lt (key x) (key y)) xs ≡ true → AllPairs (DifferBy key) xs
  sorted_apart xs h i j d less short =
      ap (λ (b : Bool). b || nat_lt (key (get_or xs j d)) (key (get_or xs i d))) (sorted_pairs key_order xs (λ k x l. tt) h i j d less short)

pub edge_order : IsStrictOrderOn (λ (e : Edge). ⊤) edge_before
edge_order = key_order (λ e. e.key)
