-- The seat has seen more.
use Rattle.session.proofs.Stores.{sees_on, keeps_counts}
use Rattle.session.proofs.store.SeatVersionVersionsMutexPressVersion.pin.Goals as goal

pub returns-clause-continues : goal.returns-clause-continues
returns-clause-continues g c =
    sees_on c.args.self.now c.pin.new.self c.pin.ensures.grows c.pin.ensures.same.1.0 c.pin.ensures.same.1.2 c.pin.ensures.same.1.5.0

pub returns-clause-counts : goal.returns-clause-counts
returns-clause-counts g c = keeps_counts c.args.self.now c.pin.new.self c.pin.ensures.same.1
