use Rattle.std.proofs.Common.{◌≡◌, ◌-◌, ◌≤◌, ◌^◌}
use Rattle.wire_text.specs.SliceReading.{edges_at}
use Rattle.plain_io.specs.Fronts.{in_front}
use Rattle.wire_text.specs.Reading.{bad_text}
use Rattle.wire_text.proofs.slice_reading.edges_at.Given as goal

abbrev pub invariant-loop : goal.invariant-loop
invariant-loop l = record {
  read : in_front l.edges (edges_at bad_text l.least (l.n - l.counter) l.lines) ≡ edges_at bad_text 0 l.n l.fn.lines;
  small : l.least ≤ 2 ^ 32;
}
