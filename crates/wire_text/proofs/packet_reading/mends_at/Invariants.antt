use Rattle.std.proofs.Common.{◌≡◌, ◌-◌}
use Rattle.wire_text.specs.SliceReading.{mends_at}
use Rattle.plain_io.specs.Fronts.{in_front}
use Rattle.wire_text.specs.Reading.{bad_text}
use Rattle.wire_text.proofs.packet_reading.mends_at.Given as goal

abbrev pub invariant-loop : goal.invariant-loop
invariant-loop l = in_front l.mends (mends_at bad_text (l.n - l.counter) l.lines) ≡ mends_at bad_text l.n l.fn.lines
