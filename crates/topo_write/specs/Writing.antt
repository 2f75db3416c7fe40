-- The text of a JSON value, part by part: the members of a list with a comma between any two.
use Rattle.std.specs.Prelude.{ℕ, Bool, true, false, List, [], ◌∷◌, ◌++◌}
use Rattle.serde_json.specs.Written.{comma_if}

-- the texts with commas between them, and one in front where something stands before
abbrev pub with_commas : Bool → List (List ℕ) → List ℕ
with_commas later [] = []
with_commas later (text ∷ texts) = comma_if later ++ (text ++ with_commas true texts)

-- the text of a list up to its closing bracket
abbrev pub list_front : List (List ℕ) → List ℕ
list_front texts = 91 ∷ with_commas false texts
