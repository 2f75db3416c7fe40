-- The touched nodes at which two ends are left, in ascending order, each once.
use Rattle.std.proofs.Common.{◌≡◌, ◌↔◌, ◌==◌, ℕ, nat_eq, nat_cmp, filter, List, get_or, IsPermutation}
use Rattle.std.specs.Prelude.{Contains}
use Rattle.std.specs.List.{dedup}
use Rattle.std.specs.List.Sorted.{IsSorted, IsStrictlyIncreasing}
use Rattle.std.proofs.lemmas.Bool.{eq-eqb, eqb-true}
use Rattle.std.proofs.lemmas.List.Sorted.{Contains-permutation, IsPermutation-sym}
use Rattle.std.proofs.lemmas.List.Kept.{Contains-dedup_nat, Contains-from_dedup, IsStrictlyIncreasing-filter}
use Rattle.std.proofs.lemmas.Map.Keys.{IsStrictlyIncreasing-dedup}
use Rattle.lemmas.proofs.Members.{Contains-filter, Contains-from_filter}

module _ (counts touched sorted once kept : List ℕ) (moved : IsPermutation touched sorted) (in_order : IsSorted nat_cmp sorted)
    (each : once ≡ dedup nat_eq sorted) (left : kept ≡ filter (λ n. get_or counts n 0 == 2) once) where
  pub touched_ascend : IsStrictlyIncreasing kept
  touched_ascend =
      rw (left, each) (IsStrictlyIncreasing-filter (λ n. get_or counts n 0 == 2) (dedup nat_eq sorted) (IsStrictlyIncreasing-dedup sorted in_order))

  pub touched_members : (n : ℕ) → Contains kept n ↔ (Contains touched n × (get_or counts n 0 ≡ 2))
  touched_members n = rw (left, each) (
    (λ c.
        let f = Contains-from_filter (λ n. get_or counts n 0 == 2) (dedup nat_eq sorted) n c in
        (Contains-permutation sorted touched n (IsPermutation-sym touched sorted moved) (Contains-from_dedup nat_eq sorted n f.0), eqb-true (get_or counts n 0) 2 f.1)),
    (λ c.
        Contains-filter (λ n. get_or counts n 0 == 2) (dedup nat_eq sorted) n
        (Contains-dedup_nat sorted n (Contains-permutation touched sorted n moved c.0)) (eq-eqb (get_or counts n 0) 2 c.1)),
  )
