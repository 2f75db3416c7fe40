-- The rules file: a JSON object with the property that names classes, the classes, their compatibilities and the ratio.
use Rattle.std.specs.Prelude.{ℕ, ◌-◌, ◌==◌, nat_le, nat_lt, ◌&&◌, Bool, List, [], ◌∷◌, length, map, codes, Option, None, option_map, option_and_then, Result, Ok, if◌then◌else◌}
use Rattle.std.specs.Option.{ok_or, is_some}
use Rattle.std.specs.List.{concat}
use Rattle.serde_json.specs.Data.{Data}
use Rattle.serde_json.specs.Find.{get, as_object, as_str}
use Rattle.tgap_model.specs.declared.topology.NamedRules.{NamedRules}
use Rattle.tgap_model.specs.declared.fault.LimitKind.TheVariants.{Classes}
use Rattle.tgap_model.specs.declared.fault.MapFault.{MapFault}
use Rattle.tgap_model.specs.declared.fault.MapFault.TheVariants.{BadRules}
use Rattle.tgap_model.specs.declared.limits.TheConstants.{MAX_WEIGHT, MAX_COMPATIBILITY, MAX_RATIO}
use Rattle.tgap_model.specs.Base.{is_rules}
use Rattle.map_forms.specs.Listing.{within_limit}
use Rattle.line_forms.specs.Lines.{◌>>=◌}
use Rattle.line_forms.specs.Json.{tree, ensured, each_of, items_of, text_at, natural_in}

-- a class: its name and its weight
abbrev pub named_weight : List Data → Option (List ℕ × ℕ)
named_weight (name ∷ weight ∷ []) = option_and_then (λ n. option_map (λ w. (n, w)) (natural_in 1 MAX_WEIGHT weight)) (as_str name)
named_weight items = None

abbrev pub class_of : Data → Option (List ℕ × ℕ)
class_of d = option_and_then named_weight (items_of d)

-- so many items, and what is read of each
abbrev pub exactly : {A : Type 0} → ℕ → (Data → Option A) → Data → Option (List A)
exactly n read d = option_and_then (λ items. if length items == n then each_of read items else None) (items_of d)

-- the classes: one at least
abbrev pub classes_of : Data → Option (List (List ℕ × ℕ))
classes_of d = option_and_then (λ items. if nat_le 1 (length items) then each_of class_of items else None) (items_of d)

-- the compatibilities of n classes, of each as loser with each as winner
abbrev pub compat_of : ℕ → Data → Option (List ℕ)
compat_of n d = option_map concat (exactly n (exactly n (natural_in 0 MAX_COMPATIBILITY)) d)

-- the rules that a JSON value tells, or the first place at which it does not
unfoldable pub named_rules : Data → Result NamedRules MapFault
named_rules d = do
  top ← ensured (is_some (as_object d)) (BadRules 1)
  property ← ok_or (text_at (codes "property") d) (BadRules 2)
  classes ← ok_or (option_and_then classes_of (get (codes "classes") d)) (BadRules 3)
  limited ← within_limit Classes (length classes)
  default ← ok_or (option_and_then (natural_in 0 (length classes - 1)) (get (codes "default") d)) (BadRules 4)
  compat ← ok_or (option_and_then (compat_of (length classes)) (get (codes "compat") d)) (BadRules 5)
  ratio ← ok_or (option_and_then (natural_in 0 MAX_RATIO) (get (codes "ratio") d)) (BadRules 6)
  Ok (record {
    property = property;
    names = map (λ c. c.0) classes;
    default = default;
    rules = record { ratio = ratio; weights = map (λ c. c.1) classes; compat = compat };
  })

-- the rules that the bytes of a rules file tell
unfoldable pub rules_of : List ℕ → Result NamedRules MapFault
rules_of bytes = do
  d ← ok_or (tree bytes) (BadRules 0)
  named_rules d

-- the rules keep to their limits, and there is a name for each class, and a class that stands for all others
unfoldable pub is_named_rules : NamedRules → Bool
is_named_rules named =
    is_rules named.rules && (length named.names == length named.rules.weights) && nat_lt named.default (length named.rules.weights)
