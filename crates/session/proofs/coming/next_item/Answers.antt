-- What the last take gave stands behind what was taken before.
use Rattle.session.proofs.Fronts.{received_more}
use Rattle.session.proofs.coming.next_item.Goals as goal

pub returns-in-Ok-eq0-clause-bytes : goal.returns-in-Ok-eq0-clause-bytes
returns-in-Ok-eq0-clause-bytes g c =
    received_more (g.L.Link.taken c.args.link.now) (g.L.Link.taken c.reading.link) (g.L.Link.taken c.fill.new.link)
    c.args.room.now c.reading.room c.fill.new.self c.reading.invariant.bytes c.in-Ok-eq0.ensures.bytes

pub returns-in-Head-clause-bytes : goal.returns-in-Head-clause-bytes
returns-in-Head-clause-bytes g c =
    received_more (g.L.Link.taken c.args.link.now) (g.L.Link.taken c.reading.link) (g.L.Link.taken c.await_body.new.link)
    c.args.room.now c.reading.room c.await_body.new.room c.reading.invariant.bytes c.await_body.ensures.bytes
