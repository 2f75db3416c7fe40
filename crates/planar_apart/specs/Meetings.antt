-- Meetings as faults of a map, their order, and the boxes of segments.
use Rattle.std.specs.Prelude.{◌≡◌, ◌⊎◌, ◌<◌, ◌≤◌, Bool, ◌&&◌, ◌||◌, ◌==◌, nat_lt, Option, Some, None}
use Rattle.tgap_model.specs.declared.geometry.Window.{Window}
use Rattle.tgap_model.specs.declared.segment.LabelledSegment.{LabelledSegment}
use Rattle.tgap_model.specs.declared.fault.MapFault.{MapFault}
use Rattle.tgap_model.specs.declared.fault.MapFault.TheVariants.{Meets}
use Rattle.grid_index.specs.Boxes.{segment_box}
use Rattle.planar_apart.specs.declared.meeting.Meeting.{Meeting}

-- a meeting as a fault of a map
abbrev pub meets : Meeting → MapFault
meets m = Meets m.i m.j m.at

-- the bounding box of a segment
abbrev pub box_of : LabelledSegment → Window
box_of s = segment_box s.segment.a s.segment.b

-- the pair of the first meeting is less than that of the second: by the lesser number, and then by the other one
abbrev pub is_before : Meeting → Meeting → Bool
is_before a b = nat_lt a.i b.i || ((a.i == b.i) && nat_lt a.j b.j)

-- where the second is a meeting, so is the first, and its pair is not greater
abbrev pub IsNoLater : Option Meeting → Option Meeting → Type 0
IsNoLater found None = Unit {0}
IsNoLater None (Some m) = ⊥
IsNoLater (Some k) (Some m) = (k.i < m.i) ⊎ ((k.i ≡ m.i) × (k.j ≤ m.j))

-- of two meetings it is one, and not later than either
pub record IsEarlier (a b found : Option Meeting) : Type 0 where
  pub first : IsNoLater found a
  pub second : IsNoLater found b
  pub one : (found ≡ a) ⊎ (found ≡ b)
