-- A base map that is edited.
use Rattle.std.specs.Prelude.{◌≡◌, ℕ, List, length, Option, Some, None, IfSome, IsTrue}
use Rattle.tgap_model.specs.declared.base.BaseArc.{BaseArc}
use Rattle.tgap_model.specs.Base.{BaseMap, is_base}
use Rattle.map_version.specs.Indexed.{Indexed, arcs_of}

-- the base map with these classes and arcs in place of its own
abbrev pub drafted : BaseMap → List ℕ → List BaseArc → BaseMap
drafted m classes arcs = record m { classes = classes; arcs = arcs }

-- the arcs that are indexed, or else those of the base map
abbrev pub arcs_now : Option Indexed → List BaseArc → List BaseArc
arcs_now None arcs = arcs
arcs_now (Some x) arcs = arcs_of x

-- a base map, whose arcs may be indexed
pub record IsDraft (m : BaseMap) (indexed : Option Indexed) : Type 0 where
  pub base : IsTrue (is_base m)
  pub faces : IfSome indexed (λ x. x.faces ≡ length m.classes)
