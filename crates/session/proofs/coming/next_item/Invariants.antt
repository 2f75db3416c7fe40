-- What was taken so far stands behind what was held, and neither the end nor a failure came.
use Rattle.std.proofs.Common.{◌≡◌, length, false, ◌-◌}
use Rattle.session.specs.Reading.{Received}
use Rattle.session.specs.declared.room.TheConstants.{ROOM}
use Rattle.session.proofs.coming.next_item.Given as goal

abbrev pub invariant-reading : goal.invariant-reading
invariant-reading g l = record {
  bytes : Received (g.L.Link.taken l.initial.link) (g.L.Link.taken l.link) l.initial.room l.room;
  end : g.L.Link.ended l.link ≡ false;
  faults : g.L.Link.take_faults l.link ≡ g.L.Link.take_faults l.initial.link;
  told : g.L.Link.told l.link ≡ g.L.Link.told l.initial.link;
  put_faults : g.L.Link.put_faults l.link ≡ g.L.Link.put_faults l.initial.link;
}

abbrev pub decreases-reading : goal.decreases-reading
decreases-reading g l = ROOM - length l.room
