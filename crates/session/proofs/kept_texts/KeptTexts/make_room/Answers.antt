-- The last ones stay.
use Rattle.std.proofs.Common.{◌∙◌, All, drop, sym, ap, subst}
use Rattle.std.specs.List.{Contains}
use Rattle.session.proofs.KeptLists.{all_dropped}
use Rattle.session.proofs.kept_texts.KeptTexts.make_room.Goals as goal

pub returns-clause-texts : goal.returns-clause-texts
returns-clause-texts c =
    let first = c.first_that_stays-first.result in
    subst (All (Contains c.args.self.now)) (sym (c.drop_first.ensures ∙ ap (drop first) c.self.view_is)) (all_dropped first c.args.self.now)
