-- The edges before a step of which an edge after it is made.
use Rattle.std.specs.Prelude.{ℕ, ◌==◌, List, [], flat_map, find, Some, None, if◌then◌else◌}
use Rattle.tgap_model.specs.Chains.{Chain, key, turned_round}
use Rattle.tgap_build.specs.declared.joined.OldEdge.{OldEdge}

-- the chain with a key
abbrev pub chain_with : List Chain → ℕ → Chain
chain_with chains k = elim (find (λ c. key c == k) chains) [ None ↦ [] | Some c ↦ c ]

-- the chain of an edge as a part of a later one, in the direction of that one
abbrev pub old_chain : List Chain → OldEdge → Chain
old_chain chains p = if p.turned then turned_round (chain_with chains p.key) else chain_with chains p.key

-- these chains, one after the other
abbrev pub old_chains : List Chain → List OldEdge → Chain
old_chains chains parts = flat_map (old_chain chains) parts
