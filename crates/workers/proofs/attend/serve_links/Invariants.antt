-- The links that came so far are served and handed back, the next one may be served at the desk, and the door has neither closed nor failed.
use Rattle.std.proofs.Common.{◌≡◌}
use Rattle.workers.specs.Served.{ServesDoor}
use Rattle.workers.proofs.attend.serve_links.Given as goal

abbrev pub invariant-loop : goal.invariant-loop
invariant-loop g l = record {
  iterator : (goal.iterator-loop g).can_next l.iterator' × (goal.iterator-loop g).is_finite l.iterator';
  served : ServesDoor g.D.Line.Link (g.D.Door.told l.initial.door) (g.D.Door.told l.door) (g.A.Attend.served l.initial.attendant l.attendant);
  ready : g.A.Attend.ready l.attendant l.desk;
  faults : g.D.Door.faults l.door ≡ g.D.Door.faults l.initial.door;
}
