-- So many boxes are held by so many hulls.
use Rattle.std.proofs.Common.{◌≡◌, ℕ, ◌<◌, ◌*◌, ◌/◌, length, get_or}
use Rattle.tgap_model.specs.declared.geometry.Window.{Window}
use Rattle.grid_index.specs.declared.tree.TheConstants.{FANOUT}
use Rattle.grid_index.specs.Boxes.{Covers}
use Rattle.grid_index.proofs.tree.hulls_of.Given as goal

abbrev pub invariant-loop-i : goal.invariant-loop-i
invariant-loop-i l = record {
  count : length l.hulls ≡ l.i;
  holds : (k : ℕ) (d e : Window) → k < FANOUT * l.i → k < length l.boxes → Covers (get_or l.hulls (k / FANOUT) d) (get_or l.boxes k e);
}
