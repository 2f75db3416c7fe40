use Rattle.std.proofs.Common.{◌≡◌, ◌+◌, ◌++◌, List, drop}
use Rattle.tgap_model.specs.declared.geometry.Point.{Point}
use Rattle.tgap_model.specs.declared.slice.Removal.{Removal}
use Rattle.tgap_model.specs.Removals.{is_removed}
use Rattle.tgap_model.specs.Records.{puts_from}
use Rattle.tgap_build.specs.Running.{has_point}
use Rattle.tgap_build.proofs.mends.push_puts.Given as goal

-- the puts so far, and those of the points that are left
abbrev pub invariant-loop-i : goal.invariant-loop-i
invariant-loop-i l = (now : List Removal) → ((p : Point) → has_point l.gone p ≡ is_removed now p)
    → l.puts ++ puts_from now (l.first + l.i) (drop l.i l.points) ≡ l.initial.puts ++ puts_from now l.first l.points
