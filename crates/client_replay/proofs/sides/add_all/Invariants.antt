use Rattle.std.proofs.Common.{◌≡◌, ℕ, ◌||◌, nat_cmp, drop}
use Rattle.std.specs.List.{list_any}
use Rattle.std.specs.BTreeSet.{contains}
use Rattle.tgap_model.specs.Removals.{has_side}
use Rattle.client_replay.proofs.sides.add_all.Given as goal

-- what is there, and what is beside the edges that are left, is all
abbrev pub invariant-loop-edge : goal.invariant-loop-edge
invariant-loop-edge l =
    (f : ℕ) → (contains nat_cmp l.sides f || list_any (has_side f) (drop l.edge-index l.edges)) ≡ (contains nat_cmp l.initial.sides f || list_any (has_side f) l.edges)
