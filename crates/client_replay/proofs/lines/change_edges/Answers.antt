use Rattle.std.proofs.Common.{◌++◌, List, AllPairs, IsPermutation, filter, sym, ap, subst, ◌∙◌}
use Rattle.std.proofs.lemmas.Result.{on_ok_weaker}
use Rattle.tgap_model.specs.declared.slice.Edge.{Edge}
use Rattle.tgap_model.specs.declared.record.Mend.{Mend}
use Rattle.client_replay.specs.Working.{edges_of, DifferInKey}
use Rattle.client_replay.proofs.LineTables.{is_unnamed}
use Rattle.client_replay.proofs.Changing.{left_labelled, left_stay}
use Rattle.client_replay.proofs.lines.change_edges.Goals as goal

pub lower-requires-clause-labelled : goal.lower-requires-clause-labelled
lower-requires-clause-labelled c =
    let es = c.args.lines.now.entries in
    let left = c.take_mended.ensures.left ∙ ap (λ (ms : List Mend). filter (is_unnamed ms) es) c.as_slice.ensures in
    left_labelled c.args.labels.now c.args.step_record.now.mends es c.take_mended.new.lines.entries c.requires.labelled left

pub put_all-requires-clause-apart : goal.put_all-requires-clause-apart
put_all-requires-clause-apart c =
    let es = c.args.lines.now.entries in
    let left = c.take_mended.ensures.left ∙ ap (λ (ms : List Mend). filter (is_unnamed ms) es) c.as_slice.ensures in
    let stay = c.in_ok-lower.ensures.lowered ∙ left_stay c.args.step_record.now c.args.labels.now es c.take_mended.new.lines.entries left in
    subst (λ (zs : List Edge). AllPairs DifferInKey (zs ++ c.args.edges.items)) (sym stay) c.requires.apart

pub returns-clause-put : goal.returns-clause-put
returns-clause-put c =
    let es = c.args.lines.now.entries in
    let left = c.take_mended.ensures.left ∙ ap (λ (ms : List Mend). filter (is_unnamed ms) es) c.as_slice.ensures in
    let stay = c.in_ok-lower.ensures.lowered ∙ left_stay c.args.step_record.now c.args.labels.now es c.take_mended.new.lines.entries left in
    on_ok_weaker c.put_all.result
    (λ p. subst (λ (zs : List Edge). IsPermutation (zs ++ c.args.edges.items) (edges_of c.put_all.new.labels c.put_all.new.lines.entries)) stay p) c.put_all.ensures.put
