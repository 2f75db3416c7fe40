-- They stand in order of key.
use Rattle.std.proofs.Common.{rules, List, sym, subst}
use Rattle.std.specs.List.Sorted.{IsNonDecreasingBy}
use Rattle.std.proofs.lemmas.List.Sorted.{IsNonDecreasingBy-from_sort_by_key}
use Rattle.tgap_model.specs.declared.slice.Edge.{Edge}
use Rattle.refine_packets.proofs.changes.all_coming.Goals as goal

pub returns-clause-order : goal.returns-clause-order
returns-clause-order c =
    subst (λ (es : List Edge). IsNonDecreasingBy (λ e. e.key) es) (sym c.from.ensures)
    (IsNonDecreasingBy-from_sort_by_key (λ (e : Edge). e.key) _ c.sort_unstable_by_key.ensures.sorted (λ a r q k. search rules))
