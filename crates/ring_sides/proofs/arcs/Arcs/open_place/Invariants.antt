-- No place so far is open: the first open place is that of the rest.
use Rattle.std.proofs.Common.{◌≡◌, drop, pos, slice_index_or}
use Rattle.topology_forms.specs.Rings.{open_place, open_from}
use Rattle.ring_sides.proofs.arcs.Arcs.open_place.Given as goal

abbrev pub invariant-loop-place : goal.invariant-loop-place
invariant-loop-place l = open_from l.self (slice_index_or l.ring 0 (pos 0)) l.place (drop l.place l.ring) ≡ open_place l.self l.ring
