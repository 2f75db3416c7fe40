-- No class so far has the name: the first that has it is among the rest.
use Rattle.std.proofs.Common.{◌≡◌, drop}
use Rattle.topology_forms.specs.Rings.{class_from}
use Rattle.ring_sides.proofs.face.class_by_name.Given as goal

abbrev pub invariant-loop-class : goal.invariant-loop-class
invariant-loop-class l =
    class_from l.named.default l.class (drop l.class l.known-items) l.name ≡ class_from l.named.default 0 l.named.names l.name
