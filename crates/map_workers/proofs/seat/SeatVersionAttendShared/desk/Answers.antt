-- A new desk is one of any list of versions.
use Rattle.session.specs.Versions.{seen_of}
use Rattle.map_workers.proofs.seat.SeatVersionAttendShared.desk.Goals as goal

pub returns : goal.returns
returns g c = c.new.ensures (seen_of c.args.self.now)
