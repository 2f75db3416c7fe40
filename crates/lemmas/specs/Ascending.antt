-- Sets as ascending lists.
use Rattle.std.specs.Prelude.{Bool, true, false, List, [], ◌∷◌}

-- an ascending list with x in it, once
abbrev pub insert_once : {A : Type 0} → (A → A → Bool) → A → List A → List A
insert_once before x [] = x ∷ []
insert_once before x (y ∷ ys) = elim (before x y) [
  | true ↦ x ∷ y ∷ ys
  | false ↦ y ∷ elim (before y x) [ true ↦ insert_once before x ys | false ↦ ys ]
]

-- the elements in ascending order, each once
abbrev pub distinct_by : {A : Type 0} → (A → A → Bool) → List A → List A
distinct_by before [] = []
distinct_by before (x ∷ xs) = insert_once before x (distinct_by before xs)
