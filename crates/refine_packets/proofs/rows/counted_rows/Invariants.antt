use Rattle.std.proofs.Common.{◌≡◌, nat_lt, map, filter, take}
use Rattle.slice_read.specs.Windows.{row_of}
use Rattle.refine_packets.specs.Counts.{count_at}
use Rattle.refine_packets.proofs.rows.counted_rows.Given as goal

-- those of the faces so far
abbrev pub invariant-loop-face : goal.invariant-loop-face
invariant-loop-face l = l.rows ≡ map (row_of l.tree) (filter (λ f. nat_lt 0 (count_at l.counts f)) (take l.face-index l.faces))
