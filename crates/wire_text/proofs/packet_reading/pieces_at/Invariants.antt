use Rattle.std.proofs.Common.{◌≡◌, ◌-◌}
use Rattle.wire_text.specs.SliceReading.{pieces_at}
use Rattle.plain_io.specs.Fronts.{in_front}
use Rattle.wire_text.specs.Reading.{bad_text}
use Rattle.wire_text.proofs.packet_reading.pieces_at.Given as goal

abbrev pub invariant-loop : goal.invariant-loop
invariant-loop l = in_front l.pieces (pieces_at bad_text (l.n - l.counter) l.lines) ≡ pieces_at bad_text l.n l.fn.lines
