use Rattle.std.proofs.Common.{◌≡◌, drop}
use Rattle.httparse.specs.Grammar.{skip_ows}
use Rattle.http_face.proofs.framing.trim_start.Given as goal

-- the bytes before this place are blank
abbrev pub invariant-loop-at : goal.invariant-loop-at
invariant-loop-at l = skip_ows (drop l.at l.bytes) ≡ skip_ows l.bytes
