use Rattle.std.proofs.Common.{◌≡◌, ◌-◌}
use Rattle.wire_text.specs.SliceReading.{ended_at}
use Rattle.plain_io.specs.Fronts.{in_front}
use Rattle.wire_text.specs.Reading.{bad_text}
use Rattle.wire_text.proofs.packet_reading.ended_at.Given as goal

abbrev pub invariant-loop : goal.invariant-loop
invariant-loop l = in_front l.edges (ended_at bad_text (l.n - l.counter) l.lines) ≡ ended_at bad_text l.n l.fn.lines
