use Rattle.std.proofs.Common.{◌≡◌, map, take}
use Rattle.tgap_build.proofs.live_edges.made_keys.Given as goal

-- of those so far
abbrev pub invariant-loop-one : goal.invariant-loop-one
invariant-loop-one l = l.found.items ≡ map (λ one. one.key) (take l.one-index l.made)
