use Rattle.std.proofs.Common.{◌≡◌, ◌<◌, ◌≤◌, ℕ, get_or}
use Rattle.ring_walk.specs.declared.spoke.Spoke.{Spoke as NodeSpoke}
use Rattle.ring_walk.proofs.next.last_of_node.Given as goal

-- the spokes so far leave one node
abbrev pub invariant-loop-next : goal.invariant-loop-next
invariant-loop-next l = (k : ℕ) (d : NodeSpoke) → l.first ≤ k → k < l.next → (get_or l.spokes k d).node ≡ l.node
