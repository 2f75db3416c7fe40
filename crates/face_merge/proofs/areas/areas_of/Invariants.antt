-- The areas are those by the arcs so far.
use Rattle.std.proofs.Common.{◌≡◌, ◌≤◌, ℕ, ◌+◌, pos, length, slice_index_or, take}
use Rattle.tgap_model.specs.History.{area_of}
use Rattle.face_merge.proofs.areas.areas_of.Given as goal

abbrev pub invariant-loop-arc : goal.invariant-loop-arc
invariant-loop-arc l = record {
  count : length l.areas.items ≡ l.faces + 1;
  value : (f : ℕ) → f ≤ l.faces → slice_index_or l.areas.items f (pos 0) ≡ area_of (take l.arc-index l.arcs) f;
}
