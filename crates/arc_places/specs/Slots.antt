-- Slots: a row of arcs in which an arc without points is gone. What a map has is the arcs that are there, in the order of their slots.
use Rattle.std.specs.Prelude.{ℕ, ◌+◌, Bool, nat_lt, List, [], ◌∷◌, length, filter, take, slice_index_or, if◌then◌else◌}
use Rattle.tgap_model.specs.declared.base.BaseArc.{BaseArc}

-- the arc has a point
abbrev pub is_there : BaseArc → Bool
is_there a = nat_lt 0 (length a.points)

-- the arcs that are there
abbrev pub arcs_in : List BaseArc → List BaseArc
arcs_in slots = filter is_there slots

-- the slots of the arcs that are there, where the first slot has number i
abbrev pub slots_from : ℕ → List BaseArc → List ℕ
slots_from i [] = []
slots_from i (a ∷ slots) = if is_there a then i ∷ slots_from (i + 1) slots else slots_from (i + 1) slots

-- the slot of the arc with this number among those that are there
abbrev pub slot_of : List BaseArc → ℕ → ℕ
slot_of slots k = slice_index_or (slots_from 0 slots) k 0

-- The number that the arc of a slot has among those that are there: so many are there before it.
abbrev pub number_of : List BaseArc → ℕ → ℕ
number_of slots i = length (arcs_in (take i slots))
