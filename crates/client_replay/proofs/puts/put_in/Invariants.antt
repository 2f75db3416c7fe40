use Rattle.std.proofs.Common.{◌≡◌, ◌++◌, true, length, drop}
use Rattle.tgap_model.specs.Records.{put_in}
use Rattle.client_replay.proofs.Putting.{start_at}
use Rattle.client_replay.proofs.puts.put_in.Given as goal

-- the points so far and the rest, with the puts that are left, whose places are past those
abbrev pub invariant-loop-put : goal.invariant-loop-put
invariant-loop-put l = record {
  same : put_in (drop l.put-index l.puts) (l.all.items ++ l.rest) ≡ put_in l.puts l.points;
  ascend : start_at (length l.all.items) (drop l.put-index l.puts) ≡ true;
}
