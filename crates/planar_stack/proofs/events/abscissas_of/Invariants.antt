use Rattle.std.proofs.Common.{◌≡◌, take}
use Rattle.planar_stack.proofs.Slabs.{end_abscissas}
use Rattle.planar_stack.proofs.events.abscissas_of.Given as goal

abbrev pub invariant-loop-s : goal.invariant-loop-s
invariant-loop-s l = l.found.items ≡ end_abscissas (take l.s-index l.segments)
