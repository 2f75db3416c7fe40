-- The first pin may have seen more versions than were seen before.
use Rattle.std.proofs.Common.{List, ℕ, sym, subst}
use Rattle.session.specs.Conversation.{Conversation}
use Rattle.session.proofs.Connections.{served_from}
use Rattle.session.proofs.Known.{are_kept_longer}
use Rattle.session.proofs.connection.converse.Goals as goal

pub serve-how-requires-clause-texts : goal.serve-how-requires-clause-texts
serve-how-requires-clause-texts g c κs within =
    let S = g.V.Versions.seen in
    are_kept_longer (S c.args.versions.now) (S c.pin.new.self) c.args.fittings.now.kept c.pin.ensures.continues c.requires.texts

pub returns-in_default-clause-texts : goal.returns-in_default-clause-texts
returns-in_default-clause-texts g c =
    let S = g.V.Versions.seen in
    are_kept_longer (S c.args.versions.now) (S c.pin.new.self) c.args.fittings.now.kept c.pin.ensures.continues c.requires.texts

pub returns-clause-connection : goal.returns-clause-connection
returns-clause-connection g c =
    let S = g.V.Versions.seen in
    let taken = g.L.Link.taken in
    let told = g.L.Link.told in
    let P : List ℕ → List ℕ → Type 0 = λ numbers rows. Conversation (S c.pin.new.self) (S c.serve-how.new.versions) (taken c.args.link.now) (taken c.serve-how.new.link)
    (told c.args.link.now) (told c.serve-how.new.link) (g.L.Link.ended c.serve-how.new.link)
    (record { how = c.serve-how.result; first = c.in-Ok.pin.number; last = c.serve-how.new.talk.pin.number; numbers = numbers; rows = rows }) in
    served_from (S c.args.versions.now) (S c.pin.new.self) (S c.serve-how.new.versions) (taken c.args.link.now) (taken c.serve-how.new.link)
    (told c.args.link.now) (told c.serve-how.new.link) (g.L.Link.ended c.serve-how.new.link) _
    c.pin.ensures.continues c.pin.ensures.counts c.in-Ok.ensures.newest
    (subst (λ rows. P c.into_lists-numbers.result.0 rows) (sym c.into_lists-numbers.ensures.rows)
    (subst (λ numbers. P numbers c.serve-how.new.talk.log.rows) (sym c.into_lists-numbers.ensures.numbers) c.serve-how.ensures.conversation))
