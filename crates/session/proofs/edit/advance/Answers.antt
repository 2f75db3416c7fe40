-- What becomes of a map that was checked.
use Rattle.http_face.specs.declared.request.Route.TheVariants.{Edit as EditRoute}
use Rattle.session.specs.Items.{Route as RouteAsked}
use Rattle.session.proofs.Kept.{pin_kept}
use Rattle.session.proofs.Edits.{refused_commit, if_ok}
use Rattle.session.proofs.Progressing.{continues_more}
use Rattle.session.proofs.Counting.{counts_of_list}
use Rattle.session.proofs.Later.{turned_later, counts_later, told_later}
use Rattle.session.proofs.edit.advance.Goals as goal

pub publish_built-requires-clause-pin : goal.publish_built-requires-clause-pin
publish_built-requires-clause-pin g c κs alive =
    let S = g.V.Versions.seen in
    pin_kept (S c.args.versions.now) (S c.ready.new.self) c.args.pin.now c.in-Ok.ensures.continues c.requires.pin

pub returns-in-Ok-clause-turned : goal.returns-in-Ok-clause-turned
returns-in-Ok-clause-turned g c =
    let S = g.V.Versions.seen in
    if_ok c.publish_built.result _ _
    (λ t is made. turned_later (S c.args.versions.now) (S c.ready.new.self) (S c.publish_built.new.versions) c.args.pin.now.number
    c.publish_built.new.pin.number (RouteAsked EditRoute c.args.batch.now) c.args.revision.close t c.in-Ok.ensures.continues (is made))
    c.publish_built.ensures.turned

pub returns-in-Ok-clause-continues : goal.returns-in-Ok-clause-continues
returns-in-Ok-clause-continues g c =
    let S = g.V.Versions.seen in
    continues_more (S c.args.versions.now) (S c.ready.new.self) (S c.publish_built.new.versions) c.in-Ok.ensures.continues
    c.publish_built.ensures.continues

pub returns-in-Ok-clause-counts : goal.returns-in-Ok-clause-counts
returns-in-Ok-clause-counts g c =
    let S = g.V.Versions.seen in
    counts_later (S c.args.versions.now) (S c.ready.new.self) (S c.publish_built.new.versions) c.publish_built.result
    c.in-Ok.ensures.counts c.publish_built.ensures.counts

pub returns-in-Ok-clause-told : goal.returns-in-Ok-clause-told
returns-in-Ok-clause-told g c =
    let S = g.V.Versions.seen in
    told_later (S c.args.versions.now) (S c.ready.new.self) (S c.publish_built.new.versions) c.publish_built.result
    c.in-Ok.ensures.continues c.publish_built.ensures.told

pub returns-in-Err-clause-turned : goal.returns-in-Err-clause-turned
returns-in-Err-clause-turned g c =
    let S = g.V.Versions.seen in
    if_ok c.refuse_commit.result _ _
    (λ t is made. refused_commit (S c.args.versions.now) (S c.ready.new.self) c.args.pin.now c.args.revision.map c.args.batch.now c.args.revision.close c.in-Err.fail t
    c.requires.pin c.in-Err.ensures.continues made c.requires.sound c.in-Err.ensures.stale c.in-Err.ensures.full is)
    c.refuse_commit.ensures

pub returns-in-Err-clause-pin : goal.returns-in-Err-clause-pin
returns-in-Err-clause-pin g c =
    let S = g.V.Versions.seen in
    pin_kept (S c.args.versions.now) (S c.ready.new.self) c.args.pin.now c.in-Err.ensures.continues c.requires.pin

pub returns-in-Err-clause-counts : goal.returns-in-Err-clause-counts
returns-in-Err-clause-counts g c =
    let S = g.V.Versions.seen in
    counts_of_list (S c.args.versions.now) (S c.ready.new.self) c.args.pin.now.number c.args.revision.close c.in-Err.fail c.refuse_commit.result
    c.in-Err.ensures.cause c.refuse_commit.ensures c.in-Err.ensures.counts
