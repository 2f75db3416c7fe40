-- The keys that stand before this place have their slots.
use Rattle.std.proofs.Common.{◌≡◌, ◌<◌, ℕ, length, get_or}
use Rattle.grid_index.proofs.boxes.slots_of.Given as goal

abbrev pub invariant-loop-i : goal.invariant-loop-i
invariant-loop-i l = (length l.slots.items ≡ length l.keys) × ((j : ℕ) → j < l.i → get_or l.slots.items (get_or l.keys j 0) 0 ≡ j)
