-- They are those that were found, from the first one on.
use Rattle.std.proofs.Common.{◌-◌, map, reverse, All, Contains, sym, subst}
use Rattle.std.proofs.lemmas.List.Sorted.{IsPermutation-reverse, All-permutation}
use Rattle.tgap_model.specs.Merged.{merged}
use Rattle.tgap_model.specs.Chains.{key, chains_at}
use Rattle.tgap_build.specs.declared.joined.OldEdge.{OldEdge}
use Rattle.tgap_build.proofs.joined.old_edges.Goals as goal

pub returns-clause-there : goal.returns-clause-there
returns-clause-there c =
    let There = λ (p : OldEdge). Contains (map key (chains_at (merged c.args.forest.now.base) (c.args.k - 1))) p.key in
    let back = c.in_ok-found.found.items in
    subst (All There) (sym c.reverse.ensures.items) (All-permutation There back (reverse back) (IsPermutation-reverse back) c.in_ok-found.ensures.there)
