-- The seat has heard of the press's list.
use Rattle.std.proofs.Common.{◌∙◌, sym}
use Rattle.session.proofs.Stores.{sees_on, keeps_counts, map_count}
use Rattle.session.proofs.store.SeatVersionVersionsMutexPressVersion.ready.Goals as goal

pub returns-clause-stale : goal.returns-clause-stale
returns-clause-stale g c n is =
    let stale = (c.ready.ensures.stale n).0 is in
    (stale.0, stale.1 ∙ sym (map_count _ _ c.ready.ensures.seen))

pub returns-clause-full : goal.returns-clause-full
returns-clause-full g c limit is =
    let full = (c.ready.ensures.full limit).0 is in
    let one = c.ready.ensures.limited in
    (full.2 ∙ sym one.0 ∙ one.1, full.2 ∙ sym full.1 ∙ sym full.0)

pub returns-clause-continues : goal.returns-clause-continues
returns-clause-continues g c =
    sees_on c.args.self.now c.ready.new.seat c.ready.ensures.grows c.ready.ensures.counts.0 c.ready.ensures.counts.2 c.ready.ensures.counts.5.0

pub returns-clause-counts : goal.returns-clause-counts
returns-clause-counts g c = keeps_counts c.args.self.now c.ready.new.seat c.ready.ensures.counts
