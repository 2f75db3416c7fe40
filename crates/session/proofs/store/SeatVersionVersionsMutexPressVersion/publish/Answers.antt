-- The seat has heard of the press's list.
use Rattle.std.proofs.Common.{◌∙◌, ◌+◌, sym}
use Rattle.version_store.proofs.Lists.{one_limit}
use Rattle.map_version.specs.declared.version.Version.{Version}
use Rattle.session.specs.Versions.{seen_of}
use Rattle.session.proofs.Stores.{sees_on, map_count, published_last, published_next, kept_right, counted_publish}
use Rattle.session.proofs.store.SeatVersionVersionsMutexPressVersion.publish.Goals as goal

pub returns-clause-last : goal.returns-clause-last
returns-clause-last g c =
    let e = c.publish.ensures in
    published_last _ _ _ c.args.named _ (λ (v : Version). v.built) c.publish.result _ e.appended e.seen e.listed c.requires.number

pub returns-clause-batch : goal.returns-clause-batch
returns-clause-batch g c =
    let e = c.publish.ensures in
    published_last _ _ _ c.args.named _ (λ (v : Version). v.batch) c.publish.result _ e.appended e.seen e.listed c.requires.number

pub returns-clause-counts : goal.returns-clause-counts
returns-clause-counts g c =
    let e = c.publish.ensures in
    counted_publish (c.args.named + 1) (seen_of c.args.self.now) (seen_of c.publish.new.seat) c.publish.result e.counted (kept_right _ _ _ e.kept)
    e.numbers (kept_right _ _ _ e.none) e.unkept e.without_room

pub returns-clause-newest : goal.returns-clause-newest
returns-clause-newest g c =
    let e = c.publish.ensures in
    published_next _ _ _ c.args.named _ c.publish.result _ e.appended e.front e.listed c.requires.number

pub returns-clause-stale : goal.returns-clause-stale
returns-clause-stale g c n is =
    let stale = (c.publish.ensures.stale n).0 is in
    (stale.0, stale.1 ∙ sym (map_count _ _ (c.publish.ensures.newest n is)))

pub returns-clause-full : goal.returns-clause-full
returns-clause-full g c limit is =
    let full = (c.publish.ensures.full limit).0 is in
    let one = one_limit c.deref_mut.result.now c.publish.new.seat in
    (full.2 ∙ one, full.2 ∙ sym full.1 ∙ sym full.0)

pub returns-clause-continues : goal.returns-clause-continues
returns-clause-continues g c =
    sees_on c.args.self.now c.publish.new.seat c.publish.ensures.grows c.publish.ensures.others.0 c.publish.ensures.others.1 c.publish.ensures.seats.1
