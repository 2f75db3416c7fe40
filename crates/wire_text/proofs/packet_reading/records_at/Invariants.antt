use Rattle.std.proofs.Common.{◌≡◌, ◌-◌}
use Rattle.wire_text.specs.SliceReading.{records_at}
use Rattle.plain_io.specs.Fronts.{in_front}
use Rattle.wire_text.specs.Reading.{bad_text}
use Rattle.wire_text.proofs.packet_reading.records_at.Given as goal

abbrev pub invariant-loop : goal.invariant-loop
invariant-loop l = in_front l.records (records_at bad_text l.step (l.n - l.counter) l.lines) ≡ records_at bad_text l.fn.first l.n l.fn.lines
