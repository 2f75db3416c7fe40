use Rattle.std.proofs.Common.{◌≡◌, filter, take}
use Rattle.std.specs.Prelude.{option_to_list}
use Rattle.std.specs.List.{flat_map}
use Rattle.grid_index.specs.Keyed.{edge_in}
use Rattle.grid_index.specs.Live.{keys}
use Rattle.tgap_build.specs.Running.{has_any}
use Rattle.tgap_build.proofs.removal.losing.Given as goal

-- those with the keys so far
abbrev pub invariant-loop-key : goal.invariant-loop-key
invariant-loop-key l = l.losing.items ≡ flat_map (λ k. keys (filter (has_any l.gone) (option_to_list (edge_in l.edges.places.items k)))) (take l.key-index l.among)
