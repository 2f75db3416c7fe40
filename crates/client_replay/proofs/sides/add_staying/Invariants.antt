use Rattle.std.proofs.Common.{◌≡◌, ℕ, ◌||◌, nat_cmp}
use Rattle.std.specs.List.{list_any}
use Rattle.std.specs.BTreeSet.{contains}
use Rattle.tgap_model.specs.Removals.{has_side}
use Rattle.client_replay.specs.Coming.{staying}
use Rattle.client_replay.specs.Working.{edges_of}
use Rattle.client_replay.proofs.sides.add_staying.Given as goal

-- what is there, and what is beside the edges that are left and stay, is all
abbrev pub invariant-loop-key : goal.invariant-loop-key
invariant-loop-key l =
    (f : ℕ) → (contains nat_cmp l.sides f || list_any (has_side f) (staying l.step_record (edges_of l.working.labels l.key-iterator)))
    ≡ (contains nat_cmp l.initial.sides f || list_any (has_side f) (staying l.step_record (edges_of l.working.labels l.working.lines.entries)))
