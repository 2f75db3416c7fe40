use Rattle.std.proofs.Common.{take}
use Rattle.map_version.specs.Positions.{position}
use Rattle.map_version.proofs.Least.{IsLeast}
use Rattle.map_version.proofs.arcs.IndexedArcs.place_of.Given as goal

-- the least of the arcs so far
abbrev pub invariant-loop-at : goal.invariant-loop-at
invariant-loop-at l = IsLeast (position l.sought) l.self.slots (take l.at l.listed) l.first
