use Rattle.std.proofs.Common.{◌≡◌, ◌≤◌, take, reverse, length}
use Rattle.httparse.specs.Grammar.{skip_ows}
use Rattle.http_face.proofs.framing.trim_end.Given as goal

-- the bytes from the end on are blank
abbrev pub invariant-loop-end : goal.invariant-loop-end
invariant-loop-end l = record { within : l.end ≤ length l.bytes; same : skip_ows (reverse (take l.end l.bytes)) ≡ skip_ows (reverse l.bytes) }

abbrev pub decreases-loop-end : goal.decreases-loop-end
decreases-loop-end l = l.end
