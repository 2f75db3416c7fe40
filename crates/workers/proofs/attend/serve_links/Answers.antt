use Rattle.std.proofs.Common.{◌∙◌, refl}
use Rattle.workers.proofs.Rounds.{none_yet, one_more}
use Rattle.workers.proofs.attend.serve_links.Goals as goal

pub loop-init : goal.loop-init
loop-init g c = record {
  iterator = (tt, tt);
  served = none_yet g.D.Line.Link (g.D.Door.told c.args.door.now) (g.A.Attend.served c.args.attendant.now c.args.attendant.now)
      (g.met.A.Attend.served_none c.args.attendant.now);
  ready = c.desk-desk.ensures;
  faults = refl;
}

pub loop-preserved : goal.loop-preserved
loop-preserved g c = record {
  iterator = (tt, tt);
  served = one_more _ _ _ _ _ _ _ (record { came = c.in-Came.link; left = c.attend-end.new.link; end = c.attend-end.result })
      c.loop.invariant.served c.in-Came.ensures.told c.done.ensures.told (λ talks. c.attend-end.ensures.served c.args.attendant.now talks);
  ready = c.attend-end.ensures.ready;
  faults = c.done.ensures.faults ∙ (c.in-Came.ensures.faults ∙ c.loop.invariant.faults);
}
