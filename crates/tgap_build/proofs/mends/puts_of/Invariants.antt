use Rattle.std.proofs.Common.{◌≡◌, ◌≤◌, ◌-◌, ◌++◌, List, drop, length}
use Rattle.tgap_model.specs.declared.geometry.Point.{Point}
use Rattle.tgap_model.specs.declared.slice.Removal.{Removal}
use Rattle.tgap_model.specs.Removals.{is_removed}
use Rattle.tgap_model.specs.Records.{puts_from}
use Rattle.tgap_build.specs.Running.{has_point}
use Rattle.tgap_build.proofs.mends.puts_of.Given as goal

-- the puts so far, and those of the points that are left
abbrev pub invariant-loop-place : goal.invariant-loop-place
invariant-loop-place l = record {
  inside : l.place ≤ length l.row;
  puts : (now : List Removal) → ((p : Point) → has_point l.gone p ≡ is_removed now p) → l.puts ++ puts_from now l.place (drop l.place l.row) ≡ puts_from now 0 l.row;
}

abbrev pub decreases-loop-place : goal.decreases-loop-place
decreases-loop-place l = length l.row - l.place
