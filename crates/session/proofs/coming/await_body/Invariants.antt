-- What was taken so far stands behind the head, and neither the end nor a failure came.
use Rattle.std.proofs.Common.{◌≡◌, length, false, ◌-◌}
use Rattle.session.specs.Coming.{BeginsHead}
use Rattle.session.specs.Reading.{Received}
use Rattle.session.specs.declared.room.TheConstants.{ROOM}
use Rattle.session.proofs.coming.await_body.Given as goal

abbrev pub invariant-awaiting : goal.invariant-awaiting
invariant-awaiting g l = record {
  head : BeginsHead l.room l.request;
  bytes : Received (g.L.Link.taken l.initial.link) (g.L.Link.taken l.link) l.initial.room l.room;
  end : g.L.Link.ended l.link ≡ false;
  faults : g.L.Link.take_faults l.link ≡ g.L.Link.take_faults l.initial.link;
  told : g.L.Link.told l.link ≡ g.L.Link.told l.initial.link;
  put_faults : g.L.Link.put_faults l.link ≡ g.L.Link.put_faults l.initial.link;
}

abbrev pub decreases-awaiting : goal.decreases-awaiting
decreases-awaiting g l = ROOM - length l.room
