use Rattle.std.proofs.Common.{rules, nat_cmp, ap, ◌∙◌}
use Rattle.std.specs.BTreeSet.{contains}
use Rattle.std.proofs.lemmas.Map.Made.{filter_same_pairs}
use Rattle.client_replay.specs.Working.{rows_of}
use Rattle.client_replay.proofs.FaceRows.{rows_kept}
use Rattle.client_replay.proofs.faces.keep_faces.Goals as goal

pub returns-clause-kept : goal.returns-clause-kept
returns-clause-kept c =
    let old = c.args.faces.now.entries in
    let kept = c.args.kept.now in
    ap rows_of (filter_same_pairs _ (λ e. contains nat_cmp kept e.0) _ (λ k v b w f' t. search rules) old _ c.retain.ensures.filtered)
    ∙ rows_kept (contains nat_cmp kept) old
