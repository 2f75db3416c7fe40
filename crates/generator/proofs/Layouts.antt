-- Maps laid out like the generated one: nodes and bends near the corners and the middles of the sides of squares of 16 units, in rows
-- and columns, and a face for each square. Where they stand exactly, and how faces and arcs are numbered, is left open.
use Rattle.std.proofs.Common.{◌≡◌, ℕ, ◌+◌, ◌*◌, ◌<◌, ◌≤◌, true, false, pos, ◌+ℤ◌, ◌-ℤ◌, ◌<ℤ◌, ◌≤ℤ◌, List, [], ◌∷◌, ◌++◌, flat_map, arith}
use Rattle.std.specs.List.{range_with_len}
use Rattle.std.proofs.lemmas.Int.{ints}
use Rattle.tgap_model.specs.declared.geometry.Point.{Point}
use Rattle.tgap_model.specs.declared.geometry.Seg.{Seg}
use Rattle.tgap_model.specs.declared.segment.LabelledSegment.{LabelledSegment}
use Rattle.tgap_model.specs.Segment.{run, rise}
use Rattle.generator.specs.GridMap.{grid_point}

-- Where nodes and bends stand, for `size` rows of `size` cells, and which numbers faces and arcs have. The face of cell (i, j) is
-- `region (i + 1) (j + 1)`, and the regions round the cells are the outside.
pub record Layout : Type 0 where
  pub size : ℕ
  pub node_x : ℕ → ℕ → ℕ
  pub node_y : ℕ → ℕ → ℕ
  pub bend_x : ℕ → ℕ → ℕ
  pub bend_y : ℕ → ℕ → ℕ
  pub region : ℕ → ℕ → ℕ
  pub level_number : ℕ → ℕ → ℕ
  pub upright_number : ℕ → ℕ → ℕ

-- from 0 to 3 units beyond the corner of square i
pub record IsBeyond (i z : ℕ) : Type 0 where
  pub low : 16 * i ≤ z
  pub high : z ≤ 16 * i + 3

pub record IsLayout (l : Layout) : Type 0 where
  pub node_x : (i j : ℕ) → IsBeyond i (l.node_x i j)
  pub node_y : (i j : ℕ) → IsBeyond j (l.node_y i j)
  pub bend_x : (i j : ℕ) → IsBeyond i (l.bend_x i j)
  pub bend_y : (i j : ℕ) → IsBeyond j (l.bend_y i j)
  pub before_all : (b : ℕ) → l.region 0 b ≡ 0
  pub behind_all : (a b : ℕ) → l.size < a → l.region a b ≡ 0
  pub below_all : (a : ℕ) → l.region a 0 ≡ 0
  pub above_all : (a b : ℕ) → l.size < b → l.region a b ≡ 0

-- ---- the segments: each arc has two

abbrev pub node_of : Layout → ℕ → ℕ → Point
node_of l i j = grid_point (l.node_x i j) (l.node_y i j)

abbrev pub level_bend_of : Layout → ℕ → ℕ → Point
level_bend_of l i j = grid_point (16 * i + 8) (l.bend_y i j)

abbrev pub upright_bend_of : Layout → ℕ → ℕ → Point
upright_bend_of l i j = grid_point (l.bend_x i j) (16 * j + 8)

abbrev pub level_first : Layout → ℕ → ℕ → LabelledSegment
level_first l i j = record {
  segment = record { a = node_of l i j; b = level_bend_of l i j };
  left = l.region (i + 1) (j + 1);
  right = l.region (i + 1) j;
  arc = l.level_number i j;
  place = 0;
  starts = true;
  ends = false;
}

abbrev pub level_second : Layout → ℕ → ℕ → LabelledSegment
level_second l i j = record {
  segment = record { a = level_bend_of l i j; b = node_of l (i + 1) j };
  left = l.region (i + 1) (j + 1);
  right = l.region (i + 1) j;
  arc = l.level_number i j;
  place = 1;
  starts = false;
  ends = true;
}

abbrev pub upright_first : Layout → ℕ → ℕ → LabelledSegment
upright_first l i j = record {
  segment = record { a = node_of l i j; b = upright_bend_of l i j };
  left = l.region i (j + 1);
  right = l.region (i + 1) (j + 1);
  arc = l.upright_number i j;
  place = 0;
  starts = true;
  ends = false;
}

abbrev pub upright_second : Layout → ℕ → ℕ → LabelledSegment
upright_second l i j = record {
  segment = record { a = upright_bend_of l i j; b = node_of l i (j + 1) };
  left = l.region i (j + 1);
  right = l.region (i + 1) (j + 1);
  arc = l.upright_number i j;
  place = 1;
  starts = false;
  ends = true;
}

-- those of a level and of an upright arc
abbrev pub level_halves : Layout → ℕ → ℕ → List LabelledSegment
level_halves l i j = level_first l i j ∷ level_second l i j ∷ []

abbrev pub upright_halves : Layout → ℕ → ℕ → List LabelledSegment
upright_halves l i j = upright_first l i j ∷ upright_second l i j ∷ []

-- those of a row, of a column, and of all
abbrev pub row_halves : Layout → ℕ → List LabelledSegment
row_halves l j = flat_map (λ i. level_halves l i j) (range_with_len 0 l.size)

abbrev pub column_halves : Layout → ℕ → List LabelledSegment
column_halves l i = flat_map (λ j. upright_halves l i j) (range_with_len 0 l.size)

abbrev pub all_halves : Layout → List LabelledSegment
all_halves l = flat_map (row_halves l) (range_with_len 0 (l.size + 1)) ++ flat_map (column_halves l) (range_with_len 0 (l.size + 1))

-- ---- level segments go to the right more than up or down, and upright ones up more than to the right or left

pub record IsFlat (s : Seg) : Type 0 where
  pub rising : pos 0 <ℤ (run s +ℤ rise s)
  pub falling : pos 0 <ℤ (run s -ℤ rise s)

pub record IsSteep (s : Seg) : Type 0 where
  pub rightwards : pos 0 <ℤ (rise s +ℤ run s)
  pub leftwards : pos 0 <ℤ (rise s -ℤ run s)

-- both ends of the segment are in the box from (x0, y0) to (x1, y1)
pub record IsIn (s : Seg) (x0 x1 y0 y1 : ℕ) : Type 0 where
  pub a_left : pos x0 ≤ℤ s.a.x
  pub a_right : s.a.x ≤ℤ pos x1
  pub a_below : pos y0 ≤ℤ s.a.y
  pub a_above : s.a.y ≤ℤ pos y1
  pub b_left : pos x0 ≤ℤ s.b.x
  pub b_right : s.b.x ≤ℤ pos x1
  pub b_below : pos y0 ≤ℤ s.b.y
  pub b_above : s.b.y ≤ℤ pos y1

module _ (l : Layout) (is : IsLayout l) (i j : ℕ) where
  pub first_flat : IsFlat (level_first l i j).segment
  first_flat =
      let x = is.node_x i j in let y = is.node_y i j in let b = is.bend_y i j in
      record { rising = omega (arith, ints); falling = omega (arith, ints) }

  pub second_flat : IsFlat (level_second l i j).segment
  second_flat =
      let x = is.node_x (i + 1) j in let y = is.node_y (i + 1) j in let b = is.bend_y i j in
      record { rising = omega (arith, ints); falling = omega (arith, ints) }

  pub first_steep : IsSteep (upright_first l i j).segment
  first_steep =
      let x = is.node_x i j in let y = is.node_y i j in let b = is.bend_x i j in
      record { rightwards = omega (arith, ints); leftwards = omega (arith, ints) }

  pub second_steep : IsSteep (upright_second l i j).segment
  second_steep =
      let x = is.node_x i (j + 1) in let y = is.node_y i (j + 1) in let b = is.bend_x i j in
      record { rightwards = omega (arith, ints); leftwards = omega (arith, ints) }

  pub level_first_in : IsIn (level_first l i j).segment (16 * i) (16 * i + 8) (16 * j) (16 * j + 3)
  level_first_in =
      let x = is.node_x i j in let y = is.node_y i j in let b = is.bend_y i j in
      record {
        a_left = omega (arith, ints);
        a_right = omega (arith, ints);
        a_below = omega (arith, ints);
        a_above = omega (arith, ints);
        b_left = omega (arith, ints);
        b_right = omega (arith, ints);
        b_below = omega (arith, ints);
        b_above = omega (arith, ints);
      }

  pub level_second_in : IsIn (level_second l i j).segment (16 * i + 8) (16 * i + 19) (16 * j) (16 * j + 3)
  level_second_in =
      let x = is.node_x (i + 1) j in let y = is.node_y (i + 1) j in let b = is.bend_y i j in
      record {
        a_left = omega (arith, ints);
        a_right = omega (arith, ints);
        a_below = omega (arith, ints);
        a_above = omega (arith, ints);
        b_left = omega (arith, ints);
        b_right = omega (arith, ints);
        b_below = omega (arith, ints);
        b_above = omega (arith, ints);
      }

  pub upright_first_in : IsIn (upright_first l i j).segment (16 * i) (16 * i + 3) (16 * j) (16 * j + 8)
  upright_first_in =
      let x = is.node_x i j in let y = is.node_y i j in let b = is.bend_x i j in
      record {
        a_left = omega (arith, ints);
        a_right = omega (arith, ints);
        a_below = omega (arith, ints);
        a_above = omega (arith, ints);
        b_left = omega (arith, ints);
        b_right = omega (arith, ints);
        b_below = omega (arith, ints);
        b_above = omega (arith, ints);
      }

  pub upright_second_in : IsIn (upright_second l i j).segment (16 * i) (16 * i + 3) (16 * j + 8) (16 * j + 19)
  upright_second_in =
      let x = is.node_x i (j + 1) in let y = is.node_y i (j + 1) in let b = is.bend_x i j in
      record {
        a_left = omega (arith, ints);
        a_right = omega (arith, ints);
        a_below = omega (arith, ints);
        a_above = omega (arith, ints);
        b_left = omega (arith, ints);
        b_right = omega (arith, ints);
        b_below = omega (arith, ints);
        b_above = omega (arith, ints);
      }
