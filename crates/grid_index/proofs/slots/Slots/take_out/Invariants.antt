-- The slots so far are emptied.
use Rattle.std.proofs.Common.{◌<◌, ◌-◌, length}
use Rattle.std.specs.Prelude.{IfSome}
use Rattle.grid_index.proofs.Emptied.{IsEmptied}
use Rattle.grid_index.proofs.slots.Slots.take_out.Given as goal

abbrev pub invariant-walk : goal.invariant-walk
invariant-walk l = record {
  emptied : IsEmptied l.sought.key l.fn.self l.self l.at;
  within : IfSome l.found (λ i. i < length l.self);
}

abbrev pub decreases-walk : goal.decreases-walk
decreases-walk l = length l.self - l.at
