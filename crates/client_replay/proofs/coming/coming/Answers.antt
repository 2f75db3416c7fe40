use Rattle.std.proofs.Common.{List, IsPermutation, flat_map, subst, ap, ap₂, ◌∙◌, ◌++◌}
use Rattle.tgap_model.specs.declared.slice.Edge.{Edge}
use Rattle.client_replay.specs.Coming.{mended, coming}
use Rattle.client_replay.specs.Working.{slice_of}
use Rattle.client_replay.proofs.coming.coming.Goals as goal

pub returns-clause-permutation : goal.returns-clause-permutation
unfolding coming
returns-clause-permutation c =
    let r = c.args.step_record.now in
    let pieces = flat_map (mended (slice_of c.args.working.now).edges r) r.mends in
    let put = c.in_ok-add_mended.ensures ∙ ap (λ (zs : List Edge). zs ++ pieces) c.new-edges.ensures.items in
    let all = c.in_ok-add_copies.ensures ∙ ap₂ (λ (xs ys : List Edge). xs ++ ys) put c.as_slice.ensures in
    subst (λ (zs : List Edge). IsPermutation zs c.sort_by_key.new.edges.items) all c.sort_by_key.ensures.permutation
