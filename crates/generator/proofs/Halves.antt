-- Which segments a layout has: the two of each level and of each upright arc.
use Rattle.std.proofs.Common.{◌≡◌, inl, inr, ℕ, ◌+◌, ◌<◌, ◌≤◌, [], ◌∷◌, flat_map, Contains, sym, arith}
use Rattle.std.specs.List.{range_with_len}
use Rattle.std.proofs.lemmas.List.Elements.{Contains-append_left, Contains-append_right, Contains-append_cases}
use Rattle.lemmas.proofs.Members.{in_head, in_tail, in_cases, in_none, Contains-flat_map, Contains-from_flat_map}
use Rattle.tgap_model.specs.declared.segment.LabelledSegment.{LabelledSegment}
use Rattle.generator.proofs.Ranges.{in_range, below_from_range}
use Rattle.generator.proofs.Layouts.{Layout, level_first, level_second, upright_first, upright_second, level_halves, upright_halves, row_halves, column_halves, all_halves}

module _ (l : Layout) where
  -- one of the four kinds
  pub data IsHalf (s : LabelledSegment) : Type 0 where
    of_level_first : (i j : ℕ) → i < l.size → j ≤ l.size → s ≡ level_first l i j → IsHalf s
    of_level_second : (i j : ℕ) → i < l.size → j ≤ l.size → s ≡ level_second l i j → IsHalf s
    of_upright_first : (i j : ℕ) → i ≤ l.size → j < l.size → s ≡ upright_first l i j → IsHalf s
    of_upright_second : (i j : ℕ) → i ≤ l.size → j < l.size → s ≡ upright_second l i j → IsHalf s

  pub half_of : (s : LabelledSegment) → Contains (all_halves l) s → IsHalf s
  half_of s c = elim (Contains-append_cases (flat_map (row_halves l) (range_with_len 0 (l.size + 1))) (flat_map (column_halves l) (range_with_len 0 (l.size + 1))) s c) [
    | inl d ↦
        let row = Contains-from_flat_map (row_halves l) (range_with_len 0 (l.size + 1)) s d in
        let arc = Contains-from_flat_map (λ i. level_halves l i row.0) (range_with_len 0 l.size) s row.2 in
        let below = below_from_range (l.size + 1) row.0 row.1 in
        of_level arc.0 row.0 (below_from_range l.size arc.0 arc.1) (omega arith) arc.2
    | inr d ↦
        let column = Contains-from_flat_map (column_halves l) (range_with_len 0 (l.size + 1)) s d in
        let arc = Contains-from_flat_map (λ j. upright_halves l column.0 j) (range_with_len 0 l.size) s column.2 in
        let below = below_from_range (l.size + 1) column.0 column.1 in
        of_upright column.0 arc.0 (omega arith) (below_from_range l.size arc.0 arc.1) arc.2
  ]
    where
      of_level : (i j : ℕ) → i < l.size → j ≤ l.size → Contains (level_halves l i j) s → IsHalf s
      of_level i j p q d = elim (in_cases (level_first l i j) (level_second l i j ∷ []) s d) [
        | inl e ↦ of_level_first i j p q (sym e)
        | inr f ↦ elim (in_cases (level_second l i j) [] s f) [ inl e ↦ of_level_second i j p q (sym e) | inr g ↦ absurd (in_none s g) ]
      ]

      of_upright : (i j : ℕ) → i ≤ l.size → j < l.size → Contains (upright_halves l i j) s → IsHalf s
      of_upright i j p q d = elim (in_cases (upright_first l i j) (upright_second l i j ∷ []) s d) [
        | inl e ↦ of_upright_first i j p q (sym e)
        | inr f ↦ elim (in_cases (upright_second l i j) [] s f) [ inl e ↦ of_upright_second i j p q (sym e) | inr g ↦ absurd (in_none s g) ]
      ]

  in_level : (i j : ℕ) → i < l.size → j ≤ l.size → (s : LabelledSegment) → Contains (level_halves l i j) s → Contains (all_halves l) s
  in_level i j p q s c = Contains-append_left (flat_map (row_halves l) (range_with_len 0 (l.size + 1))) (flat_map (column_halves l) (range_with_len 0 (l.size + 1))) s
      (Contains-flat_map (row_halves l) (range_with_len 0 (l.size + 1)) j s (in_range (l.size + 1) j (omega arith))
      (Contains-flat_map (λ k. level_halves l k j) (range_with_len 0 l.size) i s (in_range l.size i p) c))

  in_upright : (i j : ℕ) → i ≤ l.size → j < l.size → (s : LabelledSegment) → Contains (upright_halves l i j) s → Contains (all_halves l) s
  in_upright i j p q s c = Contains-append_right (flat_map (row_halves l) (range_with_len 0 (l.size + 1))) (flat_map (column_halves l) (range_with_len 0 (l.size + 1))) s
      (Contains-flat_map (column_halves l) (range_with_len 0 (l.size + 1)) i s (in_range (l.size + 1) i (omega arith))
      (Contains-flat_map (λ k. upright_halves l i k) (range_with_len 0 l.size) j s (in_range l.size j q) c))

  pub has_level_first : (i j : ℕ) → i < l.size → j ≤ l.size → Contains (all_halves l) (level_first l i j)
  has_level_first i j p q = in_level i j p q (level_first l i j) (in_head (level_first l i j) (level_second l i j ∷ []))

  pub has_level_second : (i j : ℕ) → i < l.size → j ≤ l.size → Contains (all_halves l) (level_second l i j)
  has_level_second i j p q = in_level i j p q (level_second l i j) (in_tail (level_first l i j) (level_second l i j ∷ []) (level_second l i j) (in_head (level_second l i j) []))

  pub has_upright_first : (i j : ℕ) → i ≤ l.size → j < l.size → Contains (all_halves l) (upright_first l i j)
  has_upright_first i j p q = in_upright i j p q (upright_first l i j) (in_head (upright_first l i j) (upright_second l i j ∷ []))

  pub has_upright_second : (i j : ℕ) → i ≤ l.size → j < l.size → Contains (all_halves l) (upright_second l i j)
  has_upright_second i j p q =
      in_upright i j p q (upright_second l i j) (in_tail (upright_first l i j) (upright_second l i j ∷ []) (upright_second l i j) (in_head (upright_second l i j) []))
