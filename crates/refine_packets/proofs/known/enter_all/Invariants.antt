use Rattle.std.proofs.Common.{◌≡◌, ◌⊎◌, ℕ, true, take}
use Rattle.tgap_model.specs.WindowRecords.{has_key}
use Rattle.refine_packets.specs.Walk.{is_known}
use Rattle.refine_packets.proofs.known.enter_all.Given as goal

-- with the edges so far
abbrev pub invariant-loop-edge : goal.invariant-loop-edge
invariant-loop-edge l = (i : ℕ) → is_known l.known.items i ≡ true → (is_known l.initial.known.items i ≡ true) ⊎ (has_key (take l.edge-index l.edges) i ≡ true)
