use Rattle.std.proofs.Common.{◌≡◌, ◌≤◌, ◌*◌, flat_map, length, take}
use Rattle.tgap_model.specs.declared.geometry.Point.{Point}
use Rattle.tgap_model.specs.Partition.{spokes_of}
use Rattle.base_check.specs.Spokes.{spokes_in}
use Rattle.base_check.proofs.sorted.sorted_spokes.Given as goal

-- the spokes of the segments so far were put
abbrev pub invariant-loop-s : goal.invariant-loop-s
invariant-loop-s l = record {
  same : (v : Point) → spokes_in v l.spokes.items ≡ flat_map (spokes_of v) (take l.s-index l.segments);
  few : length l.spokes.items ≤ 2 * l.s-index;
}
