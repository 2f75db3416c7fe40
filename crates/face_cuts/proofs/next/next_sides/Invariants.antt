use Rattle.std.proofs.Common.{◌≡◌, ◌*◌, length, take, Contains}
use Rattle.ring_walk.specs.declared.side.Side.{Side}
use Rattle.ring_walk.specs.Orbits.{sides_of}
use Rattle.face_cuts.specs.NodeTables.{IsToldAt}
use Rattle.face_cuts.proofs.next.next_sides.Given as goal

-- the next sides of the sides of the rings so far are written
abbrev pub invariant-loop-ring : goal.invariant-loop-ring
invariant-loop-ring l = record {
  long : length l.next.items ≡ 2 * length l.spans;
  told : (s : Side) → Contains (sides_of (take l.ring-index l.ring-items)) s → IsToldAt l.spans l.next.items s;
}
