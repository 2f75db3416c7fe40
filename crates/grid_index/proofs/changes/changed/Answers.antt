use Rattle.std.proofs.Common.{◌++◌, List, All, Contains, IsPermutation, sym, ap, ◌∙◌, subst}
use Rattle.std.specs.Prelude.{IfNone}
use Rattle.std.specs.List.Sorted.{IsNonDecreasing}
use Rattle.std.proofs.lemmas.List.Kept.{IsNonDecreasingBy-filter}
use Rattle.tgap_model.specs.declared.slice.Edge.{Edge}
use Rattle.grid_index.specs.Live.{keys, without_keys}
use Rattle.grid_index.specs.Changes.{is_new}
use Rattle.grid_index.proofs.Placing.{each_key, come_stay, ended_is}
use Rattle.grid_index.proofs.changes.changed.Goals as goal

pub changed_in_place-requires-clause-ended : goal.changed_in_place-requires-clause-ended
changed_in_place-requires-clause-ended c =
    subst IsNonDecreasing (sym c.requires.ended) (IsNonDecreasingBy-filter (λ n. n) (is_new (keys c.args.come.items)) c.args.gone.now c.requires.gone)

pub changed_in_place-requires-clause-there : goal.changed_in_place-requires-clause-there
changed_in_place-requires-clause-there c = each_key c.args.edges c.args.come.items (subst (λ r. IfNone r (All (Contains (keys c.args.edges)) (keys c.args.come.items))) c.in-None.is c.requires.there)

pub changed_in_place-requires-clause-stay : goal.changed_in_place-requires-clause-stay
changed_in_place-requires-clause-stay c = ap (λ l. without_keys l c.args.come.items) c.requires.ended ∙ come_stay c.args.gone.now c.args.come.items

pub returns-in-None-clause-same : goal.returns-in-None-clause-same
returns-in-None-clause-same c =
    subst (λ (l : List Edge). IsPermutation (l ++ c.args.come.items) c.changed_in_place.result)
    (ap (λ l. without_keys l (without_keys (keys c.args.come.items) c.args.edges)) c.requires.ended ∙ ended_is c.args.gone.now c.args.edges c.args.come.items c.requires.fresh)
    c.changed_in_place.ensures.same
