-- Whether a line goes on where the inner point at a place is taken out.
use Rattle.std.specs.Prelude.{ℕ, not, List, Result}
use Rattle.tgap_model.specs.declared.base.BaseArc.{BaseArc}
use Rattle.tgap_model.specs.Chains.{arc_number}
use Rattle.line_forms.specs.Json.{ensured}
use Rattle.map_version.specs.Positions.{turns_at}

-- the points before and after a place differ
abbrev pub goes_on : List BaseArc → ℕ × ℕ → Result (Unit {0}) ℕ
goes_on arcs place = ensured (not (turns_at (arc_number arcs place.0).points place.1)) 7
