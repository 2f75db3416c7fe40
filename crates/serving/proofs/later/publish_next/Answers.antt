use Rattle.serving.proofs.Laters.{sees_more}
use Rattle.serving.proofs.later.publish_next.Goals as goal

pub returns-in-Ok-clause-sees : goal.returns-in-Ok-clause-sees
returns-in-Ok-clause-sees g c =
    let e = c.in-Ok.ensures in
    sees_more c.args.press.now c.publish.new.self c.args.seat.now c.publish.new.seat c.args.newest c.requires.sees e.seen e.seats.1 e.numbers e.publisher
    c.requires.newest
