-- None was looked for, and all stay.
use Rattle.std.proofs.lemmas.List.Elements.{All-contains_itself}
use Rattle.session.proofs.read.find_reply.Goals as goal

pub returns-then-not-is_kept-clause-texts : goal.returns-then-not-is_kept-clause-texts
returns-then-not-is_kept-clause-texts c = All-contains_itself c.args.kept.now
