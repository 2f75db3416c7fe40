use Rattle.std.proofs.Common.{◌≡◌, ◌<◌, ◌+◌, ◌-◌, ◌^◌, ◌++◌, drop, sum_by}
use Rattle.tgap_build.specs.Changes.{part_pieces, count_at, side_with}
use Rattle.tgap_build.proofs.live_edges.pieces_of.Given as goal

-- the pieces so far, and those of the parts that are left, which end within 32 bits
abbrev pub invariant-loop-i : goal.invariant-loop-i
invariant-loop-i l = record {
  pieces : l.pieces ++ part_pieces (count_at l.edges.places.items) (side_with l.step l.losing) l.last (drop l.i l.parts)
      ≡ part_pieces (count_at l.edges.places.items) (side_with l.step l.losing) 0 l.parts;
  few : l.last + sum_by (λ p. count_at l.edges.places.items p.key - 1) (drop l.i l.parts) < 2 ^ 32;
}
