-- The chains of the edges that have not ended, in the order of their keys.
use Rattle.std.proofs.Common.{◌≡◌, inl, inr, ℕ, zero, suc, ◌+◌, ◌<◌, List, [], ◌∷◌, sum_by, length, get_or, set, Option, Some, None, refl, ap, arith}
use Rattle.std.specs.Prelude.{unwrap_or}
use Rattle.std.proofs.lemmas.List.Sums.{sum_by-cons, sum_by-set}
use Rattle.tgap_model.specs.Chains.{Chain}
use Rattle.map_laws.proofs.ChainMembers.{Among}
use Rattle.edge_forest.specs.declared.net.Current.{Current}
use Rattle.edge_forest.specs.Net.{row_at}
use Rattle.edge_forest.specs.Family.{family}

module _ (chains : List Chain) where
  -- a chain of the family is that of a row
  abbrev pub IsOf : List (Option Current) → Chain → Type 0
  IsOf rows c = (i : ℕ) × (r : Current) × (i < length rows) × (row_at rows i ≡ Some r) × (get_or chains r.id [] ≡ c)

  pub family_of : (rows : List (Option Current)) (c : Chain) → Among c (family chains rows) → IsOf rows c
  family_of [] c m = absurd m
  family_of (None ∷ rows) c m = let o = family_of rows c m in (suc o.0, o.1, omega (arith, o.2), o.3, o.4)
  family_of (Some r ∷ rows) c (inl s) = (zero, r, omega arith, refl, s)
  family_of (Some r ∷ rows) c (inr m) = let o = family_of rows c m in (suc o.0, o.1, omega (arith, o.2), o.3, o.4)

  -- and that of each row is one
  pub of_family : (rows : List (Option Current)) (i : ℕ) (r : Current) → row_at rows i ≡ Some r → Among (get_or chains r.id []) (family chains rows)
  of_family [] i r e = absurd cc
  of_family (None ∷ rows) zero r e = absurd cc
  of_family (None ∷ rows) (suc i) r e = of_family rows i r e
  of_family (Some s ∷ rows) zero r e = inl (ap (λ (o : Option Current). get_or chains (unwrap_or o s).id []) e)
  of_family (Some s ∷ rows) (suc i) r e = inr (of_family rows i r e)

  -- a sum over the family is one over the rows
  abbrev pub row_sum : (Chain → ℕ) → Option Current → ℕ
  row_sum f None = 0
  row_sum f (Some r) = f (get_or chains r.id [])

  pub family_sum : (f : Chain → ℕ) (rows : List (Option Current)) → sum_by f (family chains rows) ≡ sum_by (row_sum f) rows
  family_sum f [] = refl
  family_sum f (None ∷ rows) = omega (arith, family_sum f rows, sum_by-cons (row_sum f) None rows)
  family_sum f (Some r ∷ rows) =
      omega (arith, family_sum f rows, sum_by-cons (row_sum f) (Some r) rows, sum_by-cons f (get_or chains r.id []) (family chains rows))

  -- a row is set
  pub family_set : (f : Chain → ℕ) (rows : List (Option Current)) (i : ℕ) (row : Option Current) → i < length rows
      → sum_by f (family chains (set rows i row)) + row_sum f (row_at rows i) ≡ sum_by f (family chains rows) + row_sum f row
  family_set f rows i row l =
      omega (arith, family_sum f rows, family_sum f (set rows i row), sum_by-set (row_sum f) rows i row None l)
