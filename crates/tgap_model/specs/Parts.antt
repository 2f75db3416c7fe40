-- The parts of a base map, before it is asked whether each face has a border.
use Rattle.std.specs.Prelude.{ℕ, Bool, ◌&&◌, nat_le, nat_lt, List, length}
use Rattle.std.specs.List.{list_all}
use Rattle.tgap_model.specs.declared.base.Rules.{Rules}
use Rattle.tgap_model.specs.declared.base.BaseArc.{BaseArc}
use Rattle.tgap_model.specs.declared.limits.TheConstants.{MAX_POINTS, MAX_ARCS, MAX_FACES}
use Rattle.tgap_model.specs.Base.{is_rules, is_arc, count_points}

-- the rules, classes and arcs have their form and keep to the limits
unfoldable pub are_parts : Rules → List ℕ → List BaseArc → Bool
are_parts rules classes arcs =
    is_rules rules
    && (nat_le (length classes) MAX_FACES && list_all (λ k. nat_lt k (length rules.weights)) classes)
    && (nat_le (length arcs) MAX_ARCS && nat_le (count_points arcs) MAX_POINTS && list_all (is_arc (length classes)) arcs)
