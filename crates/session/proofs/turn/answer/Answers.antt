-- What is kept stays right where versions come.
use Rattle.std.proofs.Common.{take, drop}
use Rattle.session.proofs.Edits.{if_ok}
use Rattle.session.proofs.Known.{are_kept_longer}
use Rattle.session.proofs.turn.answer.Goals as goal

pub returns-in-Pin-clause-texts : goal.returns-in-Pin-clause-texts
returns-in-Pin-clause-texts g c =
    let S = g.V.Versions.seen in
    are_kept_longer (S c.args.versions.now) (S c.pin_newest.new.versions) c.args.fittings.now.kept c.pin_newest.ensures.continues c.requires.texts

pub returns-in-PinSeen-clause-texts : goal.returns-in-PinSeen-clause-texts
returns-in-PinSeen-clause-texts g c =
    let S = g.V.Versions.seen in
    are_kept_longer (S c.args.versions.now) (S c.pin_seen.new.versions) c.args.fittings.now.kept c.pin_seen.ensures.continues c.requires.texts

pub returns-in-Edit-clause-texts : goal.returns-in-Edit-clause-texts
returns-in-Edit-clause-texts g c =
    let S = g.V.Versions.seen in
    are_kept_longer (S c.args.versions.now) (S c.edit.new.versions) c.args.fittings.now.kept c.edit.ensures.continues c.requires.texts

pub returns-in_default-clause-turned : goal.returns-in_default-clause-turned
returns-in_default-clause-turned g c =
    let body = take c.args.due.request.body (drop c.args.due.request.head c.args.fittings.now.room) in
    if_ok c.read.result _ _ (λ t is. is body (g.V.Versions.seen c.args.versions.now) c.requires.pin c.requires.texts) c.read.ensures.turned

pub returns-in_default-clause-texts : goal.returns-in_default-clause-texts
returns-in_default-clause-texts g c = c.read.ensures.texts (g.V.Versions.seen c.args.versions.now).history c.requires.pin c.requires.texts
