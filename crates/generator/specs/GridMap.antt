-- The generated map of n rows of n cells. Its nodes stand near the corners of squares of 16 units, its arcs bend once, and all of it
-- follows from n: each place is moved by up to 3 units, as the remainders of a number of the place say.
use Rattle.std.specs.Prelude.{ℕ, ◌+◌, ◌-◌, ◌*◌, ◌/◌, ◌%◌, ◌==◌, pos, List, [], ◌∷◌, ◌++◌, map, flat_map, if◌then◌else◌}
use Rattle.std.specs.List.{range_with_len}
use Rattle.tgap_model.specs.declared.geometry.Point.{Point}
use Rattle.tgap_model.specs.declared.base.Transform.{Transform}
use Rattle.tgap_model.specs.declared.base.Rules.{Rules}
use Rattle.tgap_model.specs.declared.base.BaseArc.{BaseArc}
use Rattle.tgap_model.specs.Base.{BaseMap}

-- the number of a place, by which its points are moved: t is 0 for a node, 1 for the bend of a level arc, 2 for that of an upright one
abbrev pub mix : ℕ → ℕ → ℕ → ℕ
mix i j t = (73 * i + 151 * j + 29 * t + 17 * (i * j)) % 64

-- ---- points

abbrev pub node_x : ℕ → ℕ → ℕ
node_x i j = 16 * i + mix i j 0 % 4

abbrev pub node_y : ℕ → ℕ → ℕ
node_y i j = 16 * j + mix i j 0 / 4 % 4

-- the height of the bend of level arc (i, j)
abbrev pub bend_y : ℕ → ℕ → ℕ
bend_y i j = 16 * j + mix i j 1 % 4

-- the abscissa of the bend of upright arc (i, j)
abbrev pub bend_x : ℕ → ℕ → ℕ
bend_x i j = 16 * i + mix i j 2 % 4

abbrev pub grid_point : ℕ → ℕ → Point
grid_point x y = record { x = pos x; y = pos y }

-- node (i, j), for i and j from 0 to n
abbrev pub node : ℕ → ℕ → Point
node i j = grid_point (node_x i j) (node_y i j)

-- the bends of level arc (i, j) and of upright arc (i, j)
abbrev pub level_bend : ℕ → ℕ → Point
level_bend i j = grid_point (16 * i + 8) (bend_y i j)

abbrev pub upright_bend : ℕ → ℕ → Point
upright_bend i j = grid_point (bend_x i j) (16 * j + 8)

-- ---- faces

-- the face of cell (i, j), for i and j below n
abbrev pub cell_face : ℕ → ℕ → ℕ → ℕ
cell_face n i j = 1 + j * n + i

abbrev pub cell_class : ℕ → ℕ → ℕ
cell_class i j = (5 * i + 3 * j + i * j) % 4

-- the faces above and below level arc (i, j)
abbrev pub face_above : ℕ → ℕ → ℕ → ℕ
face_above n i j = if j == n then 0 else cell_face n i j

abbrev pub face_below : ℕ → ℕ → ℕ → ℕ
face_below n i j = if j == 0 then 0 else cell_face n i (j - 1)

-- the faces before and behind upright arc (i, j), from left to right
abbrev pub face_before : ℕ → ℕ → ℕ → ℕ
face_before n i j = if i == 0 then 0 else cell_face n (i - 1) j

abbrev pub face_behind : ℕ → ℕ → ℕ → ℕ
face_behind n i j = if i == n then 0 else cell_face n i j

-- ---- arcs

-- the level arc from node (i, j) to node (i + 1, j)
abbrev pub level_arc : ℕ → ℕ → ℕ → BaseArc
level_arc n i j = record {
  left = face_above n i j;
  right = face_below n i j;
  points = node i j ∷ level_bend i j ∷ node (i + 1) j ∷ [];
}

-- the upright arc from node (i, j) to node (i, j + 1)
abbrev pub upright_arc : ℕ → ℕ → ℕ → BaseArc
upright_arc n i j = record {
  left = face_before n i j;
  right = face_behind n i j;
  points = node i j ∷ upright_bend i j ∷ node i (j + 1) ∷ [];
}

-- the level arcs of a row, and the upright arcs of a column
abbrev pub level_row : ℕ → ℕ → List BaseArc
level_row n j = map (λ i. level_arc n i j) (range_with_len 0 n)

abbrev pub upright_column : ℕ → ℕ → List BaseArc
upright_column n i = map (λ j. upright_arc n i j) (range_with_len 0 n)

-- first the level arcs, row by row, and then the upright ones, column by column
abbrev pub level_arcs : ℕ → List BaseArc
level_arcs n = flat_map (level_row n) (range_with_len 0 (n + 1))

abbrev pub upright_arcs : ℕ → List BaseArc
upright_arcs n = flat_map (upright_column n) (range_with_len 0 (n + 1))

-- ---- the map

-- the classes of a row of cells, and of all
abbrev pub row_classes : ℕ → ℕ → List ℕ
row_classes n j = map (λ i. cell_class i j) (range_with_len 0 n)

abbrev pub grid_classes : ℕ → List ℕ
grid_classes n = flat_map (row_classes n) (range_with_len 0 n)

-- four classes, of which class c has weight c + 1; a class is compatible with itself by 4, with another by 1
abbrev pub grid_rules : Rules
grid_rules = record {
  ratio = 16;
  weights = map (λ c. c + 1) (range_with_len 0 4);
  compat = flat_map (λ a. map (λ b. if a == b then 4 else 1) (range_with_len 0 4)) (range_with_len 0 4);
}

abbrev pub grid_transform : Transform
grid_transform = record { sx = pos 1; sy = pos 1; tx = pos 0; ty = pos 0 }

-- the generated map, for n from 1 to 147
unfoldable pub grid_base : ℕ → BaseMap
grid_base n = record {
  transform = grid_transform;
  rules = grid_rules;
  classes = grid_classes n;
  arcs = level_arcs n ++ upright_arcs n;
}
