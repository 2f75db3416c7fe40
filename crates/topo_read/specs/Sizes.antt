-- How much a JSON value holds. It is never more than the text that spells it.
use Rattle.std.specs.Prelude.{ℕ, suc, ◌+◌, List, length, sum_by, Option, Some, None}
use Rattle.serde_json.specs.Data.{Data, null, boolean, number, string, array, object, Items, no_items, item, Members, no_members, member}
use Rattle.line_forms.specs.Json.{items_of}

-- how many values it is made of, itself among them
abbrev mutual
  pub size : Data → ℕ
  size null = 1
  size (boolean b) = 1
  size (number n) = 1
  size (string s) = 1
  size (array ds) = suc (items_size ds)
  size (object ms) = suc (members_size ms)

  pub items_size : Items → ℕ
  items_size no_items = 0
  items_size (item d ds) = size d + items_size ds

  pub members_size : Members → ℕ
  members_size no_members = 0
  members_size (member k d ms) = size d + members_size ms

-- how many items an array has
abbrev pub count_items : Option (List Data) → ℕ
count_items None = 0
count_items (Some items) = length items

-- how many positions these arcs have
abbrev pub count_positions : List Data → ℕ
count_positions arcs = sum_by (λ d. count_items (items_of d)) arcs
