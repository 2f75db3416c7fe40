-- The seat has heard of the press's list.
use Rattle.session.proofs.Stores.{hears_on, hears_rise, all_taken, of_taken}
use Rattle.session.proofs.store.SeatVersionVersionsMutexPressVersion.newest.Goals as goal

pub returns-clause-told : goal.returns-clause-told
returns-clause-told g c =
    all_taken c.newest.result _ _ _ (λ n told sized. hears_rise c.args.self.now c.newest.new.seat n told sized.0) c.newest.ensures.counted c.newest.ensures.sized

pub returns-clause-continues : goal.returns-clause-continues
returns-clause-continues g c =
    of_taken c.newest.result _ _ (λ n told sized. hears_on c.args.self.now c.newest.new.seat n c.newest.ensures.grows c.newest.ensures.others.0 told sized.1
    c.newest.ensures.numbers.0)
    c.newest.ensures.taken c.newest.ensures.counted c.newest.ensures.sized

pub returns-clause-counts : goal.returns-clause-counts
returns-clause-counts g c =
    let e = c.newest.ensures in
    record { published = e.others.1; numbers = e.numbers.1; unkept = e.refusals.0; keeper_full = e.refusals.1 }
