use Rattle.std.proofs.Common.{◌≡◌, drop, List}
use Rattle.tgap_model.specs.declared.geometry.Point.{Point}
use Rattle.client_replay.specs.Between.{last_of}
use Rattle.client_replay.proofs.Putting.{IsWalked}
use Rattle.client_replay.proofs.puts.puts_fit.Given as goal

-- some points are passed, of which the last is kept, and the puts that are left are tried on these and the rest
abbrev pub invariant-loop-put : goal.invariant-loop-put
invariant-loop-put l = (passed : List Point) × IsWalked l.points l.puts passed l.rest l.place (drop l.put-index l.puts) × (last_of passed ≡ l.before)
