use Rattle.std.proofs.Common.{ℕ, Bool, true, false, ◌++◌, cond, List, map, nat_lt, AllPairs, IsPermutation, Some, None, Option, sym, ap, ap₂, subst, ◌∙◌}
use Rattle.lemmas.specs.Sorting.{is_sorted_by}
use Rattle.tgap_model.specs.declared.slice.Edge.{Edge}
use Rattle.tgap_model.specs.declared.slice.FaceRow.{FaceRow}
use Rattle.tgap_model.specs.Records.{fits_mends, fits_puts}
use Rattle.tgap_model.specs.WindowRecords.{whole_record, fits_rows}
use Rattle.slice_forms.specs.SliceForms.{is_slice_row}
use Rattle.client_replay.specs.Windows.{coming_in}
use Rattle.client_replay.specs.Working.{slice_of, edges_of, rows_of, DifferBy}
use Rattle.client_replay.proofs.Changing.{lines_sorted}
use Rattle.client_replay.proofs.Failures.{step_at_least_one}
use Rattle.client_replay.proofs.Form.{slice_parts}
use Rattle.client_replay.proofs.Seventh.{mends_sorted}
use Rattle.client_replay.proofs.WindowChanging.{tells_keys, tells_rows, are_apart, are_back, are_beside, undone_in}
use Rattle.client_replay.proofs.WindowFaces.{rows_apart}
use Rattle.client_replay.proofs.WindowForm.{undone_form_in}
use Rattle.client_replay.proofs.WindowRules.{keeps_six_in, comes_facts, broken_first_in, broken_later_in}
use Rattle.client_replay.proofs.window.undo_mending.Goals as goal

pub returns-in-Some-clause-rule : goal.returns-in-Some-clause-rule
returns-in-Some-clause-rule c = broken_first_in (slice_of c.args.working.now) c.args.step.now c.args.area c.in-Some.rule (sym c.in-Some.ensures)

pub coming_in-requires : goal.coming_in-requires
coming_in-requires c =
    let w = c.args.working.now in
    let s = slice_of w in
    let r = c.args.step.now in
    let six = keeps_six_in s r (sym c.in_default.ensures) in
    record { puts = ap (fits_puts s) c.requires.same ∙ six.mends.puts }

pub keys_differ-requires : goal.keys_differ-requires
keys_differ-requires c =
    let w = c.args.working.now in
    let s = slice_of w in
    let r = c.args.step.now in
    let six = keeps_six_in s r (sym c.in_default.ensures) in
    record { mends = mends_sorted s c.args.step_record.now (ap (fits_mends s) c.requires.same ∙ six.mends.mends) }

pub returns-then-not-keys_differ-clause-rule : goal.returns-then-not-keys_differ-clause-rule
returns-then-not-keys_differ-clause-rule c =
    let w = c.args.working.now in
    let s = slice_of w in
    let r = c.args.step.now in
    let six = keeps_six_in s r (sym c.in_default.ensures) in
    let m = c.args.step_record.now in
    let made = sym c.requires.same in
    let edges = c.in_ok-edges.edges.items in
    let coming = subst (λ (zs : List Edge). IsPermutation (coming_in c.args.area s m zs) edges) c.as_slice.ensures c.in_ok-edges.ensures.permutation in
    let keys = tells_keys c.args.area w r c.requires.sound six m made edges c.as_slice-2.result.now coming c.in_ok-edges.ensures.sorted
    c.as_slice-2.ensures.value c.keys_differ.result false c.keys_differ.ensures c.if-not-keys_differ.true in
    broken_later_in s r c.args.area (sym c.in_default.ensures) ∙ ap (λ (b : Bool). cond {A = Option ℕ} b (cond {A = Option ℕ} (fits_rows c.args.area s r) None (Some 8)) (Some 7)) keys

pub sides_after-requires : goal.sides_after-requires
sides_after-requires c =
    let w = c.args.working.now in
    let s = slice_of w in
    let r = c.args.step.now in
    let six = keeps_six_in s r (sym c.in_default.ensures) in
    record { mends = mends_sorted s c.args.step_record.now (ap (fits_mends s) c.requires.same ∙ six.mends.mends) }

pub are_known-requires : goal.are_known-requires
are_known-requires c =
    let w = c.args.working.now in
    let s = slice_of w in
    let r = c.args.step.now in
    let six = keeps_six_in s r (sym c.in_default.ensures) in
    ap (λ (rows : List FaceRow). is_sorted_by nat_lt (map (λ f. f.face) rows)) c.as_slice-rows.ensures ∙ (comes_facts s r six.comes).order

pub returns-then-not-are_known-clause-rule : goal.returns-then-not-are_known-clause-rule
returns-then-not-are_known-clause-rule c =
    let w = c.args.working.now in
    let s = slice_of w in
    let r = c.args.step.now in
    let six = keeps_six_in s r (sym c.in_default.ensures) in
    let m = c.args.step_record.now in
    let made = sym c.requires.same in
    let edges = c.in_ok-edges.edges.items in
    let coming = subst (λ (zs : List Edge). IsPermutation (coming_in c.args.area s m zs) edges) c.as_slice.ensures c.in_ok-edges.ensures.permutation in
    let keys = tells_keys c.args.area w r c.requires.sound six m made edges c.as_slice-2.result.now coming c.in_ok-edges.ensures.sorted
    c.as_slice-2.ensures.value c.keys_differ.result true c.keys_differ.ensures c.if-not-keys_differ.false in
    let rows = tells_rows c.args.area w r c.requires.sound six m made edges c.as_slice-3.result.now c.as_slice-rows.result.now c.in_ok-sides.sides coming
    c.as_slice-3.ensures.value c.as_slice-rows.ensures c.in_ok-sides.ensures c.are_known.result false c.are_known.ensures c.if-not-are_known.true in
    broken_later_in s r c.args.area (sym c.in_default.ensures) ∙ ap₂ (λ (a b : Bool). cond {A = Option ℕ} a (cond {A = Option ℕ} b None (Some 8)) (Some 7)) keys rows

pub change-requires-clause-step : goal.change-requires-clause-step
change-requires-clause-step c =
    let w = c.args.working.now in
    let s = slice_of w in
    let r = c.args.step.now in
    let six = keeps_six_in s r (sym c.in_default.ensures) in
    step_at_least_one s (whole_record r) six.step

pub change-requires-clause-apart : goal.change-requires-clause-apart
change-requires-clause-apart c =
    let w = c.args.working.now in
    let s = slice_of w in
    let r = c.args.step.now in
    let six = keeps_six_in s r (sym c.in_default.ensures) in
    let m = c.args.step_record.now in
    let made = sym c.requires.same in
    let edges = c.in_ok-edges.edges.items in
    let coming = subst (λ (zs : List Edge). IsPermutation (coming_in c.args.area s m zs) edges) c.as_slice.ensures c.in_ok-edges.ensures.permutation in
    are_apart c.args.area w r c.requires.sound six m made edges c.as_slice-2.result.now coming c.as_slice-2.ensures.value
    c.keys_differ.result c.keys_differ.ensures c.if-not-keys_differ.false

pub change-requires-clause-new : goal.change-requires-clause-new
change-requires-clause-new c =
    let w = c.args.working.now in
    let s = slice_of w in
    let r = c.args.step.now in
    let six = keeps_six_in s r (sym c.in_default.ensures) in
    subst (λ (rows : List FaceRow). AllPairs (DifferBy (λ (f : FaceRow). f.face)) (s.faces ++ rows)) (sym c.as_slice-rows.ensures)
    (rows_apart s r (slice_parts s c.requires.slice).face_order (comes_facts s r six.comes))

pub returns-clause-rule : goal.returns-clause-rule
returns-clause-rule c =
    let w = c.args.working.now in
    let s = slice_of w in
    let r = c.args.step.now in
    let six = keeps_six_in s r (sym c.in_default.ensures) in
    let m = c.args.step_record.now in
    let made = sym c.requires.same in
    let edges = c.in_ok-edges.edges.items in
    let coming = subst (λ (zs : List Edge). IsPermutation (coming_in c.args.area s m zs) edges) c.as_slice.ensures c.in_ok-edges.ensures.permutation in
    let keys = tells_keys c.args.area w r c.requires.sound six m made edges c.as_slice-2.result.now coming c.in_ok-edges.ensures.sorted
    c.as_slice-2.ensures.value c.keys_differ.result true c.keys_differ.ensures c.if-not-keys_differ.false in
    let rows = tells_rows c.args.area w r c.requires.sound six m made edges c.as_slice-3.result.now c.as_slice-rows.result.now c.in_ok-sides.sides coming
    c.as_slice-3.ensures.value c.as_slice-rows.ensures c.in_ok-sides.ensures c.are_known.result true c.are_known.ensures c.if-not-are_known.false in
    broken_later_in s r c.args.area (sym c.in_default.ensures) ∙ ap₂ (λ (a b : Bool). cond {A = Option ℕ} a (cond {A = Option ℕ} b None (Some 8)) (Some 7)) keys rows

pub returns-clause-slice : goal.returns-clause-slice
returns-clause-slice c =
    let w = c.args.working.now in
    let s = slice_of w in
    let r = c.args.step.now in
    let six = keeps_six_in s r (sym c.in_default.ensures) in
    let m = c.args.step_record.now in
    let made = sym c.requires.same in
    let edges = c.in_ok-edges.edges.items in
    let coming = subst (λ (zs : List Edge). IsPermutation (coming_in c.args.area s m zs) edges) c.as_slice.ensures c.in_ok-edges.ensures.permutation in
    let own = c.as_slice-rows.result.now in
    let apart = subst (λ (rows : List FaceRow). AllPairs (DifferBy (λ (f : FaceRow). f.face)) (s.faces ++ rows)) (sym c.as_slice-rows.ensures)
    (rows_apart s r (slice_parts s c.requires.slice).face_order (comes_facts s r six.comes)) in
    let new = c.change.new.working in
    let changed = c.in_ok-change.ensures in
    let back = are_back c.args.area w r c.requires.sound six m made edges (edges_of new.labels new.lines.entries) coming
    (lines_sorted new.labels new.lines.entries changed.sound.lines) changed.edges in
    let beside = are_beside c.args.area w r c.requires.sound six m made edges c.as_slice-3.result.now own (rows_of new.faces.entries) c.in_ok-sides.sides coming
    c.as_slice-3.ensures.value c.as_slice-rows.ensures c.in_ok-sides.ensures apart changed.faces in
    let done = undone_in c.args.area w r new.step (rows_of new.faces.entries) (edges_of new.labels new.lines.entries) changed.step back beside in
    done

pub returns-clause-form : goal.returns-clause-form
returns-clause-form c =
    let w = c.args.working.now in
    let s = slice_of w in
    let r = c.args.step.now in
    let six = keeps_six_in s r (sym c.in_default.ensures) in
    let m = c.args.step_record.now in
    let made = sym c.requires.same in
    let edges = c.in_ok-edges.edges.items in
    let coming = subst (λ (zs : List Edge). IsPermutation (coming_in c.args.area s m zs) edges) c.as_slice.ensures c.in_ok-edges.ensures.permutation in
    let keys = tells_keys c.args.area w r c.requires.sound six m made edges c.as_slice-2.result.now coming c.in_ok-edges.ensures.sorted
    c.as_slice-2.ensures.value c.keys_differ.result true c.keys_differ.ensures c.if-not-keys_differ.false in
    let own = c.as_slice-rows.result.now in
    let apart = subst (λ (rows : List FaceRow). AllPairs (DifferBy (λ (f : FaceRow). f.face)) (s.faces ++ rows)) (sym c.as_slice-rows.ensures)
    (rows_apart s r (slice_parts s c.requires.slice).face_order (comes_facts s r six.comes)) in
    let new = c.change.new.working in
    let changed = c.in_ok-change.ensures in
    let back = are_back c.args.area w r c.requires.sound six m made edges (edges_of new.labels new.lines.entries) coming
    (lines_sorted new.labels new.lines.entries changed.sound.lines) changed.edges in
    let beside = are_beside c.args.area w r c.requires.sound six m made edges c.as_slice-3.result.now own (rows_of new.faces.entries) c.in_ok-sides.sides coming
    c.as_slice-3.ensures.value c.as_slice-rows.ensures c.in_ok-sides.ensures apart changed.faces in
    let done = undone_in c.args.area w r new.step (rows_of new.faces.entries) (edges_of new.labels new.lines.entries) changed.step back beside in
    ap is_slice_row done ∙ undone_form_in c.args.area s r c.requires.slice c.requires.record six c.requires.room keys
