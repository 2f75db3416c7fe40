-- The keys so far, each with such a box.
use Rattle.std.proofs.Common.{◌≡◌, All, map, take}
use Rattle.grid_index.specs.Slots.{entry_of, AreNear}
use Rattle.grid_index.proofs.entries.boxes_of_keys.Given as goal

abbrev pub invariant-loop-key : goal.invariant-loop-key
invariant-loop-key l = record {
  keys : map (λ s. s.key) l.sought.items ≡ take l.key-index l.keys;
  near : All (λ s. AreNear s.area s.key (map entry_of l.edges)) l.sought.items;
}
