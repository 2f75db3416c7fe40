-- The segments of a layout have no point in common but ends of arcs and the vertices between two segments of one arc.
use Rattle.std.proofs.Common.{inl, inr, ⊎_elim, ℕ, ◌+◌, ◌<◌, ◌≤◌, List, [], ◌∷◌, get_or, flat_map, All, AllPairs, refl, subst, eq-eqb, arith}
use Rattle.std.specs.List.{range_with_len}
use Rattle.std.proofs.lemmas.Int.{ints}
use Rattle.std.proofs.lemmas.Bool.{and_from, cases_lt, cases_order}
use Rattle.lemmas.proofs.Members.{All-flat_map, AllPairs-append}
use Rattle.tgap_model.specs.declared.segment.LabelledSegment.{LabelledSegment}
use Rattle.tgap_model.specs.Partition.{AreApart}
use Rattle.grid_geo.proofs.Lines.{first_end_on_line, second_end_on_line}
use Rattle.generator.proofs.Ranges.{range_ascends, AllPairs-flat_map, All-two, AllPairs-two}
use Rattle.generator.proofs.Layouts.{Layout, IsLayout, level_first, level_second, upright_first, upright_second, level_halves, upright_halves, row_halves, column_halves, all_halves, first_flat, second_flat, first_steep, second_steep, level_first_in, level_second_in, upright_first_in, upright_second_in}
use Rattle.generator.proofs.Touching.{turn_positive, meet_once, meet_beside, meet_stacked, apart_at_firsts, apart_at_first, apart_at_last, apart_at_lasts, apart_at_bend, apart_left, apart_right, apart_below, apart_above}

-- what holds of each list that a function makes of a number
All-made : {A : Type 0} (P : A → Type 0) (f : ℕ → List A) (ns : List ℕ) → ((n : ℕ) → All P (f n)) → All P (flat_map f ns)
All-made P f ns h = All-flat_map P f ns (λ k d lt. h (get_or ns k d))

-- each pair of two lists of two
all_four : {A : Type 0} (R : A → A → Type 0) (a b c d : A) → R a c → R a d → R b c → R b d → All (λ x. All (R x) (c ∷ d ∷ [])) (a ∷ b ∷ [])
all_four R a b c d ac ad bc bd = All-two (λ x. All (R x) (c ∷ d ∷ [])) a b (All-two (R a) c d ac ad) (All-two (R b) c d bc bd)

module _ (l : Layout) (is : IsLayout l) where
  -- ---- the two segments of an arc

  level_pair : (i j : ℕ) → AllPairs AreApart (level_halves l i j)
  level_pair i j =
      let s = level_first l i j in let t = level_second l i j in
      let f = level_first_in l is i j in let g = level_second_in l is i j in
      AllPairs-two AreApart s t (apart_at_bend s t refl (and_from _ _ (eq-eqb (l.level_number i j) (l.level_number i j) refl) refl)
      (meet_beside s.segment t.segment s.segment.b (second_end_on_line s.segment) (first_flat l is i j) f.a_right f.b_right g.a_left g.b_left))

  upright_pair : (i j : ℕ) → AllPairs AreApart (upright_halves l i j)
  upright_pair i j =
      let s = upright_first l i j in let t = upright_second l i j in
      let f = upright_first_in l is i j in let g = upright_second_in l is i j in
      AllPairs-two AreApart s t (apart_at_bend s t refl (and_from _ _ (eq-eqb (l.upright_number i j) (l.upright_number i j) refl) refl)
      (meet_stacked s.segment t.segment s.segment.b (second_end_on_line s.segment) (first_steep l is i j) f.a_above f.b_above g.a_below g.b_below))

  -- ---- two arcs of a row, and of a column

  next_in_row : (i j : ℕ) → AreApart (level_second l i j) (level_first l (i + 1) j)
  next_in_row i j =
      let s = level_second l i j in let t = level_first l (i + 1) j in
      let x = is.node_x (i + 1) j in
      apart_at_last s t refl refl refl
      (meet_beside s.segment t.segment s.segment.b (second_end_on_line s.segment) (second_flat l is i j) (omega (arith, ints)) (omega (arith, ints)) (omega (arith, ints)) (omega (arith, ints)))

  next_in_column : (i j : ℕ) → AreApart (upright_second l i j) (upright_first l i (j + 1))
  next_in_column i j =
      let s = upright_second l i j in let t = upright_first l i (j + 1) in
      let y = is.node_y i (j + 1) in
      apart_at_last s t refl refl refl
      (meet_stacked s.segment t.segment s.segment.b (second_end_on_line s.segment) (second_steep l is i j) (omega (arith, ints)) (omega (arith, ints)) (omega (arith, ints)) (omega (arith, ints)))

  in_row : (j i k : ℕ) → i < k → All (λ s. All (AreApart s) (level_halves l k j)) (level_halves l i j)
  in_row j i k less =
      let f = level_first_in l is i j in let g = level_second_in l is i j in
      let h = level_first_in l is k j in let m = level_second_in l is k j in
      all_four AreApart (level_first l i j) (level_second l i j) (level_first l k j) (level_second l k j)
      (apart_left (level_first l i j) (level_first l k j) f h (omega arith)) (apart_left (level_first l i j) (level_second l k j) f m (omega arith))
      (⊎_elim (λ (e : i + 1 < k). apart_left (level_second l i j) (level_first l k j) g h (omega arith))
      (λ (e : k ≤ i + 1). subst (λ (n : ℕ). AreApart (level_second l i j) (level_first l n j)) (omega arith) (next_in_row i j)) (cases_lt (i + 1) k))
      (apart_left (level_second l i j) (level_second l k j) g m (omega arith))

  in_column : (i j k : ℕ) → j < k → All (λ s. All (AreApart s) (upright_halves l i k)) (upright_halves l i j)
  in_column i j k less =
      let f = upright_first_in l is i j in let g = upright_second_in l is i j in
      let h = upright_first_in l is i k in let m = upright_second_in l is i k in
      all_four AreApart (upright_first l i j) (upright_second l i j) (upright_first l i k) (upright_second l i k)
      (apart_below (upright_first l i j) (upright_first l i k) f h (omega arith)) (apart_below (upright_first l i j) (upright_second l i k) f m (omega arith))
      (⊎_elim (λ (e : j + 1 < k). apart_below (upright_second l i j) (upright_first l i k) g h (omega arith))
      (λ (e : k ≤ j + 1). subst (λ (n : ℕ). AreApart (upright_second l i j) (upright_first l i n)) (omega arith) (next_in_column i j)) (cases_lt (j + 1) k))
      (apart_below (upright_second l i j) (upright_second l i k) g m (omega arith))

  -- ---- arcs of two rows, and of two columns

  two_rows : (j k : ℕ) → j < k → All (λ s. All (AreApart s) (row_halves l k)) (row_halves l j)
  two_rows j k less = All-made (λ s. All (AreApart s) (row_halves l k)) (λ i. level_halves l i j) (range_with_len 0 l.size) (λ i.
      let f = level_first_in l is i j in let g = level_second_in l is i j in
      All-two (λ s. All (AreApart s) (row_halves l k)) (level_first l i j) (level_second l i j)
      (All-made (AreApart (level_first l i j)) (λ m. level_halves l m k) (range_with_len 0 l.size) (λ m.
      All-two (AreApart (level_first l i j)) (level_first l m k) (level_second l m k)
      (apart_below (level_first l i j) (level_first l m k) f (level_first_in l is m k) (omega arith))
      (apart_below (level_first l i j) (level_second l m k) f (level_second_in l is m k) (omega arith))))
      (All-made (AreApart (level_second l i j)) (λ m. level_halves l m k) (range_with_len 0 l.size) (λ m.
      All-two (AreApart (level_second l i j)) (level_first l m k) (level_second l m k)
      (apart_below (level_second l i j) (level_first l m k) g (level_first_in l is m k) (omega arith))
      (apart_below (level_second l i j) (level_second l m k) g (level_second_in l is m k) (omega arith)))))

  two_columns : (i k : ℕ) → i < k → All (λ s. All (AreApart s) (column_halves l k)) (column_halves l i)
  two_columns i k less = All-made (λ s. All (AreApart s) (column_halves l k)) (λ j. upright_halves l i j) (range_with_len 0 l.size) (λ j.
      let f = upright_first_in l is i j in let g = upright_second_in l is i j in
      All-two (λ s. All (AreApart s) (column_halves l k)) (upright_first l i j) (upright_second l i j)
      (All-made (AreApart (upright_first l i j)) (λ m. upright_halves l k m) (range_with_len 0 l.size) (λ m.
      All-two (AreApart (upright_first l i j)) (upright_first l k m) (upright_second l k m)
      (apart_left (upright_first l i j) (upright_first l k m) f (upright_first_in l is k m) (omega arith))
      (apart_left (upright_first l i j) (upright_second l k m) f (upright_second_in l is k m) (omega arith))))
      (All-made (AreApart (upright_second l i j)) (λ m. upright_halves l k m) (range_with_len 0 l.size) (λ m.
      All-two (AreApart (upright_second l i j)) (upright_first l k m) (upright_second l k m)
      (apart_left (upright_second l i j) (upright_first l k m) g (upright_first_in l is k m) (omega arith))
      (apart_left (upright_second l i j) (upright_second l k m) g (upright_second_in l is k m) (omega arith)))))

  -- ---- a level and an upright arc: at each node, and elsewhere

  -- those that begin at a node
  firsts_meet : (i j : ℕ) → AreApart (level_first l i j) (upright_first l i j)
  firsts_meet i j =
      let s = level_first l i j in let t = upright_first l i j in
      apart_at_firsts s t refl refl refl (meet_once s.segment t.segment s.segment.a (first_end_on_line s.segment) (first_end_on_line t.segment)
      (turn_positive s.segment t.segment (first_flat l is i j) (first_steep l is i j)))

  first_meets_second : (i j : ℕ) → AreApart (level_first l i (j + 1)) (upright_second l i j)
  first_meets_second i j =
      let s = level_first l i (j + 1) in let t = upright_second l i j in
      apart_at_first s t refl refl refl (meet_once s.segment t.segment s.segment.a (first_end_on_line s.segment) (second_end_on_line t.segment)
      (turn_positive s.segment t.segment (first_flat l is i (j + 1)) (second_steep l is i j)))

  second_meets_first : (i j : ℕ) → AreApart (level_second l i j) (upright_first l (i + 1) j)
  second_meets_first i j =
      let s = level_second l i j in let t = upright_first l (i + 1) j in
      apart_at_last s t refl refl refl (meet_once s.segment t.segment s.segment.b (second_end_on_line s.segment) (first_end_on_line t.segment)
      (turn_positive s.segment t.segment (second_flat l is i j) (first_steep l is (i + 1) j)))

  seconds_meet : (i j : ℕ) → AreApart (level_second l i (j + 1)) (upright_second l (i + 1) j)
  seconds_meet i j =
      let s = level_second l i (j + 1) in let t = upright_second l (i + 1) j in
      apart_at_lasts s t refl refl refl (meet_once s.segment t.segment s.segment.b (second_end_on_line s.segment) (second_end_on_line t.segment)
      (turn_positive s.segment t.segment (second_flat l is i (j + 1)) (second_steep l is (i + 1) j)))

  module _ (i j k m : ℕ) where
    firsts : AreApart (level_first l i j) (upright_first l k m)
    firsts =
        let s = level_first l i j in let t = upright_first l k m in
        let f = level_first_in l is i j in let g = upright_first_in l is k m in
        elim (cases_order i k) [
          | inl e ↦ elim (cases_order j m) [
            | inl d ↦ subst (λ (n : ℕ). AreApart (level_first l i j) (upright_first l n m)) e (subst (λ (n : ℕ). AreApart (level_first l i j) (upright_first l i n)) d (firsts_meet i j))
            | inr (inl less) ↦ apart_below s t f g (omega arith)
            | inr (inr more) ↦ apart_above s t f g (omega arith)
          ]
          | inr (inl less) ↦ apart_left s t f g (omega arith)
          | inr (inr more) ↦ apart_right s t f g (omega arith)
        ]

    first_and_second : AreApart (level_first l i j) (upright_second l k m)
    first_and_second =
        let s = level_first l i j in let t = upright_second l k m in
        let f = level_first_in l is i j in let g = upright_second_in l is k m in
        elim (cases_order i k) [
          | inl e ↦ elim (cases_order (m + 1) j) [
            | inl d ↦ subst (λ (n : ℕ). AreApart (level_first l i j) (upright_second l n m)) e (subst (λ (n : ℕ). AreApart (level_first l i n) (upright_second l i m)) d (first_meets_second i m))
            | inr (inl less) ↦ apart_above s t f g (omega arith)
            | inr (inr more) ↦ apart_below s t f g (omega arith)
          ]
          | inr (inl less) ↦ apart_left s t f g (omega arith)
          | inr (inr more) ↦ apart_right s t f g (omega arith)
        ]

    second_and_first : AreApart (level_second l i j) (upright_first l k m)
    second_and_first =
        let s = level_second l i j in let t = upright_first l k m in
        let f = level_second_in l is i j in let g = upright_first_in l is k m in
        elim (cases_order (i + 1) k) [
          | inl e ↦ elim (cases_order j m) [
            | inl d ↦ subst (λ (n : ℕ). AreApart (level_second l i j) (upright_first l n m)) e (subst (λ (n : ℕ). AreApart (level_second l i j) (upright_first l (i + 1) n)) d (second_meets_first i j))
            | inr (inl less) ↦ apart_below s t f g (omega arith)
            | inr (inr more) ↦ apart_above s t f g (omega arith)
          ]
          | inr (inl less) ↦ apart_left s t f g (omega arith)
          | inr (inr more) ↦ apart_right s t f g (omega arith)
        ]

    seconds : AreApart (level_second l i j) (upright_second l k m)
    seconds =
        let s = level_second l i j in let t = upright_second l k m in
        let f = level_second_in l is i j in let g = upright_second_in l is k m in
        elim (cases_order (i + 1) k) [
          | inl e ↦ elim (cases_order (m + 1) j) [
            | inl d ↦ subst (λ (n : ℕ). AreApart (level_second l i j) (upright_second l n m)) e (subst (λ (n : ℕ). AreApart (level_second l i n) (upright_second l (i + 1) m)) d (seconds_meet i m))
            | inr (inl less) ↦ apart_above s t f g (omega arith)
            | inr (inr more) ↦ apart_below s t f g (omega arith)
          ]
          | inr (inl less) ↦ apart_left s t f g (omega arith)
          | inr (inr more) ↦ apart_right s t f g (omega arith)
        ]

  -- ---- all

  pub halves_apart : AllPairs AreApart (all_halves l)
  halves_apart = AllPairs-append AreApart (flat_map (row_halves l) (range_with_len 0 (l.size + 1))) (flat_map (column_halves l) (range_with_len 0 (l.size + 1)))
      (AllPairs-flat_map AreApart (λ j k. j < k) (row_halves l) (range_with_len 0 (l.size + 1)) (range_ascends 0 (l.size + 1))
      (λ j. AllPairs-flat_map AreApart (λ i k. i < k) (λ i. level_halves l i j) (range_with_len 0 l.size) (range_ascends 0 l.size) (λ i. level_pair i j) (in_row j)) two_rows)
      (AllPairs-flat_map AreApart (λ i k. i < k) (column_halves l) (range_with_len 0 (l.size + 1)) (range_ascends 0 (l.size + 1))
      (λ i. AllPairs-flat_map AreApart (λ j k. j < k) (λ j. upright_halves l i j) (range_with_len 0 l.size) (range_ascends 0 l.size) (λ j. upright_pair i j) (in_column i)) two_columns)
      (All-made level_apart (row_halves l) (range_with_len 0 (l.size + 1)) (λ j. All-made level_apart (λ i. level_halves l i j) (range_with_len 0 l.size) (λ i.
      All-two level_apart (level_first l i j) (level_second l i j)
      (from_uprights (level_first l i j) (λ k m. firsts i j k m) (λ k m. first_and_second i j k m))
      (from_uprights (level_second l i j) (λ k m. second_and_first i j k m) (λ k m. seconds i j k m)))))
    where
      level_apart : LabelledSegment → Type 0
      level_apart s = All (AreApart s) (flat_map (column_halves l) (range_with_len 0 (l.size + 1)))

      from_uprights : (s : LabelledSegment) → ((k m : ℕ) → AreApart s (upright_first l k m)) → ((k m : ℕ) → AreApart s (upright_second l k m)) → level_apart s
      from_uprights s f g = All-made (AreApart s) (column_halves l) (range_with_len 0 (l.size + 1)) (λ k. All-made (AreApart s) (λ m. upright_halves l k m) (range_with_len 0 l.size) (λ m.
          All-two (AreApart s) (upright_first l k m) (upright_second l k m) (f k m) (g k m)))
