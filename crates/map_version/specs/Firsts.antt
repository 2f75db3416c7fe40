-- The first of some places.
use Rattle.std.specs.Prelude.{ℕ, nat_le, List, Option, Some, None, if◌then◌else◌}
use Rattle.tgap_model.specs.declared.base.BaseArc.{BaseArc}
use Rattle.arc_places.specs.Slots.{number_of}
use Rattle.map_version.specs.declared.arcs.Place.{Place}

-- the place that was first before, or this one, if it is one and its slot comes before
abbrev pub earlier : Option Place → ℕ → Option ℕ → Option Place
earlier first slot None = first
earlier None slot (Some at) = Some (record { slot = slot; at = at })
earlier (Some place) slot (Some at) = if nat_le place.slot slot then Some place else Some (record { slot = slot; at = at })

-- the number of the arc at a place, and the position there
abbrev pub pair_of : List BaseArc → Place → ℕ × ℕ
pair_of slots place = (number_of slots place.slot, place.at)
