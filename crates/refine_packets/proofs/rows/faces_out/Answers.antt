-- The faces are sorted, stand there once, and those that are not counted are left.
use Rattle.std.proofs.Common.{rules, ℕ, nat_eq, List, ◌∷◌, IsPermutation, subst}
use Rattle.std.proofs.lemmas.List.Filters.{dedup_is}
use Rattle.std.proofs.lemmas.Fn.{filter_same}
use Rattle.slice_read.specs.Windows.{all_sides}
use Rattle.refine_packets.specs.Counts.{is_out}
use Rattle.refine_packets.proofs.StepRows.{out_once}
use Rattle.refine_packets.proofs.rows.faces_out.Goals as goal

pub returns : goal.returns
returns c =
    out_once c.args.counts.now (c.args.loser ∷ c.args.winner ∷ all_sides c.args.edges.now) c.sort_unstable.new.self.items c.dedup.new.self.items c.retain.new.self.items
    (subst (λ (xs : List ℕ). IsPermutation xs c.sort_unstable.new.self.items) c.in_ok-faces.ensures c.sort_unstable.ensures.permutation)
    c.sort_unstable.ensures.sorted
    (dedup_is nat_eq c.sort_unstable.new.self.items c.dedup.new.self.items c.dedup.ensures.filtered)
    (filter_same _ (is_out c.args.counts.now) _ (λ x b f' k. search rules) _ _ c.retain.ensures.filtered)
