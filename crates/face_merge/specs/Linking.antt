-- The length that two faces share, where they are neighbours.
use Rattle.std.specs.Prelude.{ℕ, List, Option, Some, None, if◌then◌else◌}
use Rattle.tgap_model.specs.declared.merge.LabelledArc.{LabelledArc}
use Rattle.tgap_model.specs.History.{are_neighbours, shared_length}

abbrev pub link_of : List LabelledArc → ℕ → ℕ → Option ℕ
link_of arcs f g = if are_neighbours arcs f g then Some (shared_length arcs f g) else None
