use Rattle.std.proofs.Common.{◌≡◌, ◌++◌, ◌-◌, ◌≤◌, drop}
use Rattle.tgap_model.specs.Partition.{path_segments}
use Rattle.tgap_model.proofs.segment.push_path.Given as goal

-- what was put, and the segments of the points that are left, are the segments of the arc
abbrev pub invariant-loop-i : goal.invariant-loop-i
invariant-loop-i l =
    (1 ≤ l.i)
    × (l.segments.items ++ path_segments l.number l.arc.left l.arc.right (l.i - 1) (drop (l.i - 1) l.points)
    ≡ l.initial.segments.items ++ path_segments l.number l.arc.left l.arc.right 0 l.points)
