-- The text that was used goes to the end.
use Rattle.std.proofs.Common.{rules, ◌≡◌, ◌++◌, ◌∷◌, [], All, slice_index_or, sym, subst}
use Rattle.std.specs.List.{remove, Contains}
use Rattle.session.proofs.KeptLists.{all_moved}
use Rattle.session.proofs.kept_texts.KeptTexts.use_last.Goals as goal

pub returns : goal.returns
returns c =
    let kept = c.args.self.now in
    let items : c.push_reserved.new.self.items ≡ remove kept c.args.place ++ c.remove-kept.result ∷ [] = search rules in
    let value : c.remove-kept.result ≡ slice_index_or kept c.args.place c.remove-kept.result = search rules in
    subst (All (Contains kept)) (sym items) (all_moved kept c.args.place c.remove-kept.result c.requires value)
