use Rattle.std.proofs.Common.{◌≡◌, ◌<◌, ◌^◌, ℕ, All, take}
use Rattle.std.specs.List.{list_any}
use Rattle.arc_places.specs.Places.{is_among}
use Rattle.arc_places.specs.SlotTables.{is_found}
use Rattle.arc_places.proofs.found.sides_found.Given as goal

-- the sides in the slots so far
abbrev pub invariant-loop-at : goal.invariant-loop-at
invariant-loop-at l = record {
  found : (i : ℕ) → is_among i l.found.items ≡ list_any (is_found l.table l.sought i) (take l.at l.listed);
  few : All (λ i. i < 2 ^ 33) l.found.items;
}
