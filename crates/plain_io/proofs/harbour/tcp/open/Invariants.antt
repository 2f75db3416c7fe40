use Rattle.std.proofs.Common.{◌≡◌, All, vec_len}
use Rattle.plain_io.proofs.harbour.tcp.open.Given as goal

-- so many doors were made, and none has failed
abbrev pub invariant-loop : goal.invariant-loop
invariant-loop g l = record {
  number : vec_len l.doors ≡ l.counter;
  sound : All (λ door. door.faults ≡ 0) l.doors.items;
}
