use Rattle.std.proofs.Common.{List, IsPermutation, filter, flat_map, subst, ap, ◌∙◌, ◌++◌}
use Rattle.tgap_model.specs.declared.slice.Edge.{Edge}
use Rattle.tgap_model.specs.Slice.{meets_window}
use Rattle.client_replay.specs.Coming.{mended}
use Rattle.client_replay.specs.Windows.{coming_in}
use Rattle.client_replay.specs.Working.{slice_of}
use Rattle.client_replay.proofs.coming.coming_in.Goals as goal

pub returns-clause-permutation : goal.returns-clause-permutation
unfolding coming_in
returns-clause-permutation c =
    let r = c.args.step_record.now in
    let pieces = flat_map (mended (slice_of c.args.working.now).edges r) r.mends in
    let put = c.in_ok-add_mended.ensures ∙ ap (λ (zs : List Edge). zs ++ pieces) c.new-edges.ensures.items in
    let meeting = c.keep_meeting.ensures ∙ ap (filter (meets_window c.args.area)) put in
    let all = c.in_ok-add_copies.ensures ∙ ap (λ (zs : List Edge). zs ++ c.args.comes.now) meeting in
    subst (λ (zs : List Edge). IsPermutation zs c.sort_by_key.new.edges.items) all c.sort_by_key.ensures.permutation
