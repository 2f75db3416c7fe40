use Rattle.std.proofs.Common.{◌≡◌, take}
use Rattle.tgap_model.proofs.copies.copied_arcs.Given as goal

abbrev pub invariant-loop-arc : goal.invariant-loop-arc
invariant-loop-arc l = l.copy ≡ take l.arc-index l.arcs
