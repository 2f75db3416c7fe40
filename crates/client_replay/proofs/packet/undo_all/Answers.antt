use Rattle.std.proofs.Common.{◌≡◌, ◌+◌, None, drop, sym, ap, ◌∙◌}
use Rattle.std.proofs.lemmas.List.Sums.{AllPass-from_list_all}
use Rattle.tgap_model.specs.declared.slice.Slice.{Slice}
use Rattle.slice_forms.specs.SliceForms.{has_room, is_record_row}
use Rattle.tgap_model.specs.Records.{broken_rule, undo}
use Rattle.client_replay.specs.Replaying.{undone, after}
use Rattle.client_replay.specs.Working.{slice_of}
use Rattle.client_replay.proofs.Failures.{keeps_six, keeps_mends, none_before}
use Rattle.client_replay.proofs.Form.{undone_room}
use Rattle.client_replay.proofs.Replays.{first_fits}
use Rattle.client_replay.proofs.Walks.{drop_step}
use Rattle.client_replay.proofs.packet.undo_all.Goals as goal

pub loop-step_record-preserved : goal.loop-step_record-preserved
loop-step_record-preserved c =
    let records = c.args.records.now in
    let i = c.loop-step_record.step_record-index in
    let now = slice_of c.loop-step_record.working in
    let r = c.step_record-item.result in
    let rest = drop (i + 1) records in
    let within = c.loop-step_record-test.true in
    let is = c.step_record-item.is in
    let next = drop_step records i r within is in
    let fits : broken_rule now r ≡ None = c.in_ok-rule.ensures.rule ∙ c.in_default.is in
    let done : slice_of c.undo_record.new.working ≡ undo now r = c.in_ok-rule.ensures.slice ∙ ap (after now r) c.in_default.is in
    let row = AllPass-from_list_all is_record_row records c.requires.records i r within in
    record {
      sound = c.in_ok-rule.ensures.sound;
      left = c.loop-step_record.invariant.left ∙ ap (undone now) next ∙ first_fits now r rest fits ∙ ap (λ (t : Slice). undone t rest) (sym done);
      form = c.in_ok-rule.ensures.form;
      room = ap (λ (t : Slice). has_room t rest) done
          ∙ undone_room now r c.loop-step_record.invariant.form (ap is_record_row is ∙ row) (keeps_mends now r (keeps_six now r (none_before now r fits))) rest (sym (ap (has_room now) next) ∙ c.loop-step_record.invariant.room);
    }
