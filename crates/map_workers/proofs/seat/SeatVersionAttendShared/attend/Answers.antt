-- The connection that was served is one more.
use Rattle.std.proofs.Common.{subst}
use Rattle.tgap_model.specs.Faults.{Rose}
use Rattle.session.specs.Versions.{seen_of}
use Rattle.map_workers.proofs.Seats.{served_more}
use Rattle.map_workers.proofs.seat.SeatVersionAttendShared.attend.Goals as goal

pub returns-clause-served : goal.returns-clause-served
returns-clause-served g c before talks =
    let e = c.serve_connection_at.ensures in
    served_more (seen_of before) (seen_of c.args.self.now) _ talks _ e.connection c.requires.untaken c.requires.unput
    (λ fault. subst (λ n. Rose n (g.L.Link.take_faults c.serve_connection_at.new.link)) c.requires.take_faults (e.read_fault fault))
    (λ fault. subst (λ n. Rose n (g.L.Link.put_faults c.serve_connection_at.new.link)) c.requires.put_faults (e.write_fault fault))
