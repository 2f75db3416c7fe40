-- None was found, and all stay.
use Rattle.std.proofs.lemmas.List.Elements.{All-contains_itself}
use Rattle.session.proofs.kept_texts.KeptTexts.find.Goals as goal

pub returns-in_err-place-clause-texts : goal.returns-in_err-place-clause-texts
returns-in_err-place-clause-texts c = All-contains_itself c.args.self.now
