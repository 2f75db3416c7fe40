-- It is answered from the version that is pinned.
use Rattle.session.proofs.Known.{read_turn}
use Rattle.session.proofs.turn.read.Goals as goal

pub returns-clause-turned : goal.returns-clause-turned
returns-clause-turned c body seen p all =
    let is = c.in_ok-reply.ensures.exact seen.history p all in
    read_turn seen c.args.pin.now c.args.asked body c.args.close is.0 c.in_ok-reply.reply p is.1 is.2
