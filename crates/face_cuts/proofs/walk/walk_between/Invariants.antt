use Rattle.std.proofs.Common.{◌≡◌, ◌-◌, ◌*◌, length, All}
use Rattle.ring_walk.specs.Spans.{IsSide}
use Rattle.face_cuts.specs.Sectors.{spans_of}
use Rattle.face_cuts.specs.Walks.{walk_between}
use Rattle.face_cuts.proofs.WalkRows.{left_of_walk, whole_walk}
use Rattle.face_cuts.proofs.walk.walk_between.Given as goal

-- the walk so far and what is left of it, where there is one, are the walk
abbrev pub invariant-loop : goal.invariant-loop
invariant-loop g l =
    let arcs = g.T.ArcTable.arcs l.table in
    record {
      side : IsSide (length arcs) l.side;
      within : All (IsSide (length arcs)) l.walk.items;
      long : length l.walk.items ≡ l.counter;
      rest : whole_walk l.walk.items (left_of_walk (spans_of arcs) l.face l.start l.fn.end (2 * length (spans_of arcs) - l.counter) l.side) ≡ walk_between (spans_of arcs) l.face l.start l.fn.end;
    }
