use Rattle.std.proofs.Common.{◌≡◌, ◌-◌, ◌*◌, ◌++◌, length}
use Rattle.ring_walk.specs.Rings.{next_side, ring_from, row_until}
use Rattle.ring_walk.specs.Spans.{IsSide}
use Rattle.face_cuts.specs.Sectors.{spans_of}
use Rattle.face_cuts.proofs.walk.ring_from.Given as goal

-- the row so far, and the row from the side on, are the ring
abbrev pub invariant-loop : goal.invariant-loop
invariant-loop g l =
    let arcs = g.T.ArcTable.arcs l.table in
    record {
      side : IsSide (length arcs) l.side;
      row : l.ring ++ row_until (next_side (spans_of arcs)) l.first (2 * length (spans_of arcs) - l.counter) l.side ≡ ring_from (spans_of arcs) l.first;
    }
