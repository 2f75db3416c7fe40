use Rattle.std.proofs.Common.{◌≡◌, ◌++◌, take}
use Rattle.tgap_build.specs.Table.{old_keys}
use Rattle.tgap_build.proofs.live_edges.push_keys.Given as goal

-- the keys of the parts so far
abbrev pub invariant-loop-part : goal.invariant-loop-part
invariant-loop-part l = l.keys.items ≡ l.initial.keys.items ++ old_keys (take l.part-index l.parts)
