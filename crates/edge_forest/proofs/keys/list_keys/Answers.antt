-- The list is put back with the keys behind it, or as it was.
use Rattle.std.proofs.Common.{◌∙◌, List, ℕ, ◌++◌, ap}
use Rattle.std.proofs.lemmas.List.{get_or_default}
use Rattle.edge_forest.proofs.KeyLists.{back_with, back_as_before, on_err}
use Rattle.edge_forest.proofs.keys.list_keys.Goals as goal

pub returns-clause-ok : goal.returns-clause-ok
returns-clause-ok c =
    back_with c.args.lists.now.items c.args.label c.replace.new.dest c.replace.result c.from.result c.requires
    (c.replace.ensures.value ∙ c.index_mut.ensures.value ∙ get_or_default c.args.lists.now.items c.args.label c.index_mut.result.now c.replace.result c.requires) c.args.keys.now
    (c.from.ensures ∙ c.in_ok-result.ensures.items ∙ ap (λ (ks : List ℕ). ks ++ c.args.keys.now) c.into_vec-listed.ensures)

pub returns-in_err-result-clause-err : goal.returns-in_err-result-clause-err
returns-in_err-result-clause-err c =
    on_err c.from_residual.result
    (back_as_before c.args.lists.now.items c.args.label c.replace.new.dest c.replace.result c.from.result c.requires
    (c.replace.ensures.value ∙ c.index_mut.ensures.value ∙ get_or_default c.args.lists.now.items c.args.label c.index_mut.result.now c.replace.result c.requires)
    (c.from.ensures ∙ c.in_err-result.ensures.items ∙ c.into_vec-listed.ensures))
