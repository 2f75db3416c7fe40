-- What is looked for in a JSON value, and how a list is read item by item. Values are those of `serde_json`.
use Rattle.std.specs.Prelude.{ℕ, ℤ, Bool, List, [], ◌∷◌, Option, Some, None, option_map, option_and_then, nat_le, ◌&&◌, Result, Ok, Err, if◌then◌else◌}
use Rattle.std.specs.Str.{is_utf8}
use Rattle.serde_json.specs.Data.{Data, Items, no_items, item}
use Rattle.serde_json.specs.Read.{read}
use Rattle.serde_json.specs.Find.{get, as_array, as_number, as_str, as_u64, as_i64}
use Rattle.line_forms.specs.Lines.{◌>>=◌}

-- the JSON value that the bytes spell: they are UTF-8, and `serde_json` reads them
unfoldable pub tree : List ℕ → Option Data
tree bytes = if is_utf8 bytes then read bytes else None

-- what is read next, where this holds
abbrev pub ensured : {F : Type 0} → Bool → F → Result (Unit {0}) F
ensured holds fault = if holds then Ok tt else Err fault

-- A state that each item of a list changes in turn, up to the first fault.
abbrev pub try_fold : {A S F : Type 0} → (S → A → Result S F) → S → List A → Result S F
try_fold step state [] = Ok state
try_fold step state (x ∷ xs) = step state x >>= λ next. try_fold step next xs

-- what is read of each item, where it can be read of all
abbrev pub each_of : {A B : Type 0} → (A → Option B) → List A → Option (List B)
each_of read [] = Some []
each_of read (x ∷ xs) = option_and_then (λ y. option_map (λ ys. y ∷ ys) (each_of read xs)) (read x)

abbrev pub list_of : Items → List Data
list_of no_items = []
list_of (item d ds) = d ∷ list_of ds

-- the items of an array
abbrev pub items_of : Data → Option (List Data)
items_of d = option_map list_of (as_array d)

-- the items of the array that is this member
abbrev pub items_at : List ℕ → Data → Option (List Data)
items_at key d = option_and_then items_of (get key d)

-- the text that is this member
abbrev pub text_at : List ℕ → Data → Option (List ℕ)
text_at key d = option_and_then as_str (get key d)

-- a whole number
abbrev pub whole_of : Data → Option ℤ
whole_of d = option_and_then as_i64 (as_number d)

-- a whole number from low to high
abbrev pub natural_in : ℕ → ℕ → Data → Option ℕ
natural_in low high d =
    option_and_then (λ n. if nat_le low n && nat_le n high then Some n else None) (option_and_then as_u64 (as_number d))
