use Rattle.std.proofs.Common.{ℤ, List, ap, ◌∙◌, subst, IsPermutation}
use Rattle.std.specs.Ordering.{int_eq}
use Rattle.std.proofs.lemmas.List.{take_all}
use Rattle.std.proofs.lemmas.List.Filters.{dedup_is}
use Rattle.planar_stack.proofs.Slabs.{end_abscissas}
use Rattle.lemmas.proofs.Ascending.{sorted_and_distinct}
use Rattle.planar_stack.proofs.events.abscissas_of.Goals as goal

pub returns : goal.returns
returns c =
    let all = c.loop-s.invariant ∙ ap end_abscissas (take_all c.loop-s.s-index c.args.segments.now c.loop-s-test.false) in
    dedup_is int_eq c.sort_unstable.new.self.items c.dedup.new.self.items c.dedup.ensures.filtered
    ∙ sorted_and_distinct (end_abscissas c.args.segments.now) c.sort_unstable.new.self.items
    (subst (λ (xs : List ℤ). IsPermutation xs c.sort_unstable.new.self.items) all c.sort_unstable.ensures.permutation) c.sort_unstable.ensures.sorted
