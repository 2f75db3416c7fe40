-- The arcs so far, in front of those of the rest, are all.
use Rattle.std.proofs.Common.{◌≡◌, drop}
use Rattle.topology_forms.specs.Rings.{sided_from}
use Rattle.ring_sides.specs.Taking.{in_front}
use Rattle.ring_sides.proofs.sided.sided_arcs.Given as goal

abbrev pub invariant-loop-number : goal.invariant-loop-number
invariant-loop-number l =
    in_front l.sided (sided_from l.number (drop l.number l.arcs) (drop l.number l.taken.left) (drop l.number l.taken.right))
    ≡ sided_from 0 l.arcs l.taken.left l.taken.right
