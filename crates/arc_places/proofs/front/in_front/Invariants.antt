use Rattle.std.proofs.Common.{take}
use Rattle.ring_walk.specs.Sides.{start_of}
use Rattle.arc_places.specs.Places.{is_among}
use Rattle.arc_places.specs.Slots.{slot_of}
use Rattle.arc_places.specs.SlotTables.{AreLast, AreSpokesOf, spans_in}
use Rattle.arc_places.proofs.front.in_front.Given as goal

-- the sides in the slots so far are seen
abbrev pub invariant-loop-at : goal.invariant-loop-at
invariant-loop-at l = record {
  spokes : AreSpokesOf (spans_in l.table) (start_of (spans_in l.table) l.x) l.front;
  seen : AreLast (spans_in l.table) (start_of (spans_in l.table) l.x) l.x (λ s. is_among (slot_of l.table s.span) (take l.at l.listed)) l.front;
}
