use Rattle.std.proofs.Common.{◌≡◌}
use Rattle.tgap_model.specs.Merged.{merged}
use Rattle.tgap_model.specs.Records.{records_down}
use Rattle.refine_packets.proofs.records_down.Given as goal

-- of so many steps
abbrev pub invariant-loop-i : goal.invariant-loop-i
invariant-loop-i l = l.records ≡ records_down (merged l.built) l.from l.i
