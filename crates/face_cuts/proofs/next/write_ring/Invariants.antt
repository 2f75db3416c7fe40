use Rattle.std.proofs.Common.{◌≡◌, ◌⊎◌, ◌*◌, length, take, Contains}
use Rattle.ring_walk.specs.declared.side.Side.{Side}
use Rattle.face_cuts.specs.NodeTables.{IsToldAt}
use Rattle.face_cuts.proofs.next.write_ring.Given as goal

-- the next sides of the sides so far are written
abbrev pub invariant-loop-place : goal.invariant-loop-place
invariant-loop-place l = record {
  long : length l.next ≡ 2 * length l.spans;
  told : (s : Side) → IsToldAt l.spans l.fn.next s ⊎ Contains (take l.place l.ring) s → IsToldAt l.spans l.next s;
}
