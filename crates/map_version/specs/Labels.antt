-- Faces of arcs in slots, as they change.
use Rattle.std.specs.Prelude.{ℕ, ◌-◌, Bool, ◌&&◌, not, List, [], ◌∷◌, length, map, set, Result, Ok, if◌then◌else◌}
use Rattle.tgap_model.specs.declared.geometry.Point.{Point}
use Rattle.tgap_model.specs.declared.base.BaseArc.{BaseArc}
use Rattle.tgap_model.specs.Base.{borders_face}
use Rattle.tgap_model.specs.Chains.{arc_number}
use Rattle.ring_walk.specs.declared.side.Side.{Side}
use Rattle.ring_walk.specs.declared.side.Way.{Way}
use Rattle.ring_walk.specs.declared.side.Way.TheVariants.{Along, Against}
use Rattle.line_forms.specs.Lines.{◌>>=◌}
use Rattle.edit_laws.specs.Edits.{with_points}
use Rattle.face_cuts.specs.Moves.{cut_off_sides}
use Rattle.face_cuts.specs.Fusions.{is_between, relabelled}
use Rattle.arc_places.specs.Slots.{arcs_in, is_there, slot_of}
use Rattle.map_version.specs.declared.labels.Counts.{Counts}
use Rattle.map_version.specs.declared.labels.SlotSide.{SlotSide}

-- an arc that is there is between two faces
abbrev pub is_taken : ℕ → ℕ → BaseArc → Bool
is_taken f g a = is_there a && is_between f g a

-- an arc that is there has face h, which is one of the two, as a side, and is not between them
abbrev pub is_other : ℕ → ℕ → ℕ → BaseArc → Bool
is_other f g h a = is_there a && borders_face h a && not (is_taken f g a)

-- an arc between two faces is taken out: it has no points then
abbrev pub cleared : ℕ → ℕ → BaseArc → BaseArc
cleared f g a = if is_taken f g a then with_points a [] else a

-- what is counted where such an arc is taken out
abbrev pub counted_without : ℕ → ℕ → BaseArc → Counts → Counts
counted_without f g a counts = if is_taken f g a then record { arcs = counts.arcs - 1; points = counts.points - length a.points } else counts

-- an arc that is there, with other faces
abbrev pub renamed : (ℕ → ℕ) → BaseArc → BaseArc
renamed label a = if is_there a then relabelled label a else a

-- the arc with this face at a side
abbrev pub with_side : Way → ℕ → BaseArc → BaseArc
with_side Along f a = record a { left = f }
with_side Against f a = record a { right = f }

-- a side of the arc in a slot
abbrev pub slot_side : List BaseArc → Side → SlotSide
slot_side slots s = record { slot = slot_of slots s.span; way = s.way }

-- the sides that a cut of face f by an arc with these points takes over, by their slots
abbrev pub moved_slots : List BaseArc → ℕ → List Point → Result (List SlotSide) ℕ
moved_slots slots f points = cut_off_sides (arcs_in slots) f points >>= λ moved. Ok (map (slot_side slots) moved)

-- the arcs with this face at these sides
abbrev pub passed_over : ℕ → List SlotSide → List BaseArc → List BaseArc
passed_over f [] slots = slots
passed_over f (m ∷ moved) slots = passed_over f moved (set slots m.slot (with_side m.way f (arc_number slots m.slot)))
