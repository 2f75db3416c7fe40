use Rattle.std.proofs.Common.{◌≡◌, ◌-◌, ◌≤◌, ◌^◌}
use Rattle.wire_text.specs.SliceReading.{faces_at}
use Rattle.plain_io.specs.Fronts.{in_front}
use Rattle.wire_text.specs.Reading.{bad_text}
use Rattle.wire_text.proofs.slice_reading.faces_at.Given as goal

abbrev pub invariant-loop : goal.invariant-loop
invariant-loop l = record {
  read : in_front l.faces (faces_at bad_text l.least (l.n - l.counter) l.lines) ≡ faces_at bad_text 1 l.n l.fn.lines;
  small : l.least ≤ 2 ^ 32;
}
