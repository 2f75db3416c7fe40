use Rattle.std.proofs.Common.{sym, ap, subst, ◌∙◌}
use Rattle.std.proofs.lemmas.Result.{on_ok_weaker}
use Rattle.tgap_model.specs.Records.{in_place_of}
use Rattle.client_replay.specs.Working.{edges_of, AreLabelled}
use Rattle.client_replay.proofs.Relabelled.{changed_faces, unlabelled, moved_lines}
use Rattle.client_replay.proofs.lines.lower.Goals as goal

pub returns-in_default-clause-lowered : goal.returns-in_default-clause-lowered
returns-in_default-clause-lowered c =
    let t = c.args.labels.now in
    let r = c.args.step_record.now in
    (changed_faces t t (in_place_of r.made r.winner) (unlabelled t r.made r.winner (sym c.in_default.ensures)) c.args.lines.now.entries c.requires.labelled).0

pub returns-in-None-clause-labelled : goal.returns-in-None-clause-labelled
returns-in-None-clause-labelled c =
    let r = c.args.step_record.now in
    on_ok_weaker c.pass_on.result (λ h. (changed_faces c.args.labels.now c.pass_on.new.self (in_place_of r.made r.winner) h c.args.lines.now.entries c.requires.labelled).1) c.pass_on.ensures.passed

pub returns-in-None-clause-lowered : goal.returns-in-None-clause-lowered
returns-in-None-clause-lowered c =
    let r = c.args.step_record.now in
    on_ok_weaker c.pass_on.result (λ h. (changed_faces c.args.labels.now c.pass_on.new.self (in_place_of r.made r.winner) h c.args.lines.now.entries c.requires.labelled).0) c.pass_on.ensures.passed

pub returns-in-Some-label-clause-labelled : goal.returns-in-Some-label-clause-labelled
returns-in-Some-label-clause-labelled c =
    let t = c.args.labels.now in
    let r = c.args.step_record.now in
    subst (AreLabelled t) (sym c.move_label.ensures.moved)
    (moved_lines t r.made r.winner c.in-Some.label c.in-Some-label.other c.requires.exact (sym c.in-Some.ensures) (sym c.in-Some-label.ensures) c.args.lines.now.entries c.requires.labelled).1

pub returns-in-Some-label-clause-lowered : goal.returns-in-Some-label-clause-lowered
returns-in-Some-label-clause-lowered c =
    let t = c.args.labels.now in
    let r = c.args.step_record.now in
    ap (edges_of t) c.move_label.ensures.moved
    ∙ (moved_lines t r.made r.winner c.in-Some.label c.in-Some-label.other c.requires.exact (sym c.in-Some.ensures) (sym c.in-Some-label.ensures) c.args.lines.now.entries c.requires.labelled).0
