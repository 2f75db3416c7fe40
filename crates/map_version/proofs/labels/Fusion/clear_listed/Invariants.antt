use Rattle.std.proofs.Common.{drop}
use Rattle.map_version.specs.Indexed.{AreCounted}
use Rattle.map_version.specs.Labels.{cleared, is_taken}
use Rattle.map_version.proofs.Changing.{IsChanging}
use Rattle.map_version.proofs.labels.Fusion.clear_listed.Given as goal

-- the arcs that still are between the faces are listed further on, and what is there is counted
abbrev pub invariant-loop-slot : goal.invariant-loop-slot
invariant-loop-slot l =
    IsChanging (cleared l.self.kept l.self.gone) (is_taken l.self.kept l.self.gone) l.initial.slots l.slots (drop l.slot-index l.listed)
    × AreCounted l.slots l.counts
