-- What the steps of reading a rules file answer, beside the definitions of what is read.
use Rattle.std.specs.Prelude.{ℕ, ◌==◌, List, length, map, Option, Some, None, option_and_then, Result, Ok, if◌then◌else◌}
use Rattle.std.specs.Option.{ok_or}
use Rattle.serde_json.specs.Data.{Data}
use Rattle.tgap_model.specs.declared.fault.LimitKind.TheVariants.{Classes}
use Rattle.tgap_model.specs.declared.fault.MapFault.{MapFault}
use Rattle.tgap_model.specs.declared.fault.MapFault.TheVariants.{BadRules}
use Rattle.line_forms.specs.Json.{items_of}
use Rattle.line_forms.specs.Lines.{◌>>=◌}
use Rattle.map_forms.specs.Listing.{within_limit}

-- the items of an array, where there are n
abbrev pub so_many : ℕ → Data → Option (List Data)
so_many n d = option_and_then (λ items. if length items == n then Some items else None) (items_of d)

-- the names of classes, and their weights
abbrev pub apart : List (List ℕ × ℕ) → List (List ℕ) × List ℕ
apart classes = (map (λ c. c.0) classes, map (λ c. c.1) classes)

-- the names and the weights of the classes that are read, or the fault: that of a class before that of their number
abbrev pub names_and_weights : Option (List (List ℕ × ℕ)) → Result (List (List ℕ) × List ℕ) MapFault
names_and_weights read = do
  classes ← ok_or read (BadRules 3)
  limited ← within_limit Classes (length classes)
  Ok (apart classes)
