use Rattle.std.proofs.Common.{◌≡◌, ◌==◌, ◌++◌, not, map, filter, take}
use Rattle.std.specs.List.{list_any}
use Rattle.tgap_build.specs.Changes.{whole_of}
use Rattle.tgap_build.proofs.live_edges.push_whole.Given as goal

-- those of the keys so far
abbrev pub invariant-loop-i : goal.invariant-loop-i
invariant-loop-i l = l.made.items ≡ l.initial.made.items ++ map (whole_of l.edges.places.items l.step l.losing) (filter (λ i. not (list_any (λ j. j == i) l.others)) (take l.i l.keys))
