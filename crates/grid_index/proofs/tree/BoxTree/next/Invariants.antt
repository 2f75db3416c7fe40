-- No box passes from the first place on up to this one.
use Rattle.std.proofs.Common.{◌≡◌, ℕ, ◌<◌, ◌≤◌, ◌-◌, false, length, get_or}
use Rattle.tgap_model.specs.declared.geometry.Window.{Window}
use Rattle.grid_index.proofs.tree.BoxTree.next.Given as goal

abbrev pub invariant-walk : goal.invariant-walk
invariant-walk g l = record {
  after : l.from ≤ l.at;
  within : l.at ≤ length l.boxes;
  apart : (k : ℕ) (d : Window) → l.from ≤ k → k < l.at → g.P.Probe.hits l.probe (get_or l.boxes k d) ≡ false;
}

abbrev pub decreases-walk : goal.decreases-walk
decreases-walk g l = length l.boxes - l.at
