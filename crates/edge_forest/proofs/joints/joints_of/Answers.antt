use Rattle.std.proofs.Common.{rules, ◌==◌, nat_eq, get_or}
use Rattle.std.proofs.lemmas.List.Filters.{dedup_is}
use Rattle.std.proofs.lemmas.Fn.{filter_same}
use Rattle.edge_forest.proofs.Touched.{touched_ascend, touched_members}
use Rattle.edge_forest.proofs.joints.joints_of.Goals as goal

pub returns-clause-ascend : goal.returns-clause-ascend
returns-clause-ascend c =
    touched_ascend c.args.counts.now c.args.touched.items c.sort_unstable.new.self.items c.dedup.new.self.items c.retain.new.self.items
    c.sort_unstable.ensures.permutation c.sort_unstable.ensures.sorted
    (dedup_is nat_eq c.sort_unstable.new.self.items c.dedup.new.self.items c.dedup.ensures.filtered)
    (filter_same _ (λ n. get_or c.args.counts.now n 0 == 2) _ (λ x b f' k. search rules) _ _ c.retain.ensures.filtered)

pub returns-clause-members : goal.returns-clause-members
returns-clause-members c =
    touched_members c.args.counts.now c.args.touched.items c.sort_unstable.new.self.items c.dedup.new.self.items c.retain.new.self.items
    c.sort_unstable.ensures.permutation c.sort_unstable.ensures.sorted
    (dedup_is nat_eq c.sort_unstable.new.self.items c.dedup.new.self.items c.dedup.ensures.filtered)
    (filter_same _ (λ n. get_or c.args.counts.now n 0 == 2) _ (λ x b f' k. search rules) _ _ c.retain.ensures.filtered)
