-- the segments of the runs so far
use Rattle.std.proofs.Common.{◌≡◌, ◌++◌, map, take, length, option_to_list}
use Rattle.grid_index.specs.Near.{near_boxes}
use Rattle.grid_index.specs.Live.{segment_boxes}
use Rattle.point_rope.specs.Ends.{last_one}
use Rattle.point_rope.specs.Runs.{joined}
use Rattle.point_rope.proofs.over_runs.push_near_runs.Given as goal

abbrev pub invariant-loop-run : goal.invariant-loop-run
invariant-loop-run l = record {
  found : l.found ≡ l.fn.found ++ map (λ i. record { key = l.key; place = i }) (near_boxes l.area (segment_boxes (joined (take l.run-index l.runs))));
  end : option_to_list l.end ≡ last_one (joined (take l.run-index l.runs));
  place : l.place ≡ length (joined (take l.run-index l.runs));
}
