use Rattle.std.proofs.Common.{◌<◌, ◌++◌, List, AllPairs, IsPermutation, sym, ◌∙◌, subst}
use Rattle.tgap_model.specs.declared.slice.Edge.{Edge}
use Rattle.grid_index.specs.Live.{without_keys}
use Rattle.grid_index.proofs.Merging.{fresh_permuted, changed_same, changed_ascends}
use Rattle.grid_index.proofs.edges.merged.Goals as goal

pub interleaved-requires-clause-fresh : goal.interleaved-requires-clause-fresh
interleaved-requires-clause-fresh c =
    let rest = c.reverse.new.self.items in
    let turned = c.reverse-2.new.self.items in
    let moved = subst (λ (l : List Edge). IsPermutation l rest) c.into_vec-rest.ensures c.reverse.ensures.permutation in
    fresh_permuted c.args.gone.now c.args.edges rest c.args.come.items turned moved c.reverse-2.ensures.permutation c.requires.fresh

pub returns-clause-same : goal.returns-clause-same
returns-clause-same c =
    let rest = c.reverse.new.self.items in
    let turned = c.reverse-2.new.self.items in
    let moved = subst (λ (l : List Edge). IsPermutation l rest) c.into_vec-rest.ensures c.reverse.ensures.permutation in
    subst (λ (l : List Edge). IsPermutation (without_keys c.args.gone.now c.args.edges ++ c.args.come.items) l) (sym (c.from.ensures ∙ c.interleaved.ensures))
    (changed_same c.args.gone.now c.args.edges rest c.args.come.items turned moved c.reverse-2.ensures.permutation c.requires.fresh)

pub returns-clause-ascending : goal.returns-clause-ascending
returns-clause-ascending c =
    let rest = c.reverse.new.self.items in
    let turned = c.reverse-2.new.self.items in
    let moved = subst (λ (l : List Edge). IsPermutation l rest) c.into_vec-rest.ensures c.reverse.ensures.permutation in
    subst (λ (l : List Edge). AllPairs (λ e f. e.key < f.key) l) (sym (c.from.ensures ∙ c.interleaved.ensures))
    (changed_ascends c.args.gone.now c.args.edges rest c.args.come.items turned moved c.reverse-2.ensures.permutation c.requires.fresh c.requires.edges c.requires.come)
