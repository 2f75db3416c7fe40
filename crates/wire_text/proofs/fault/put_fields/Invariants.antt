use Rattle.std.proofs.Common.{◌≡◌, ◌++◌, map, take}
use Rattle.std.specs.Fmt.{signed_decimal}
use Rattle.plain_io.specs.Fields.{fields}
use Rattle.wire_text.proofs.fault.put_fields.Given as goal

-- the numbers so far
abbrev pub invariant-loop-value : goal.invariant-loop-value
invariant-loop-value l = l.out ≡ l.fn.out ++ fields (map signed_decimal (take l.value-index l.values))
