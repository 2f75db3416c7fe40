-- The slots so far that have something.
use Rattle.std.proofs.Common.{◌≡◌, map, take, All}
use Rattle.grid_index.specs.Slots.{taken, IsHolder}
use Rattle.grid_index.proofs.slots.holders_of.Given as goal

abbrev pub invariant-loop-place : goal.invariant-loop-place
invariant-loop-place l = record {
  each : All (IsHolder l.slots) l.holders.items;
  taken : taken l.slots (map (λ h. h.slot) l.holders.items) ≡ taken l.slots (take l.place-index l.places);
}
