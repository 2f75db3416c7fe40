use Rattle.std.proofs.Common.{ℕ, Bool, true, false, cond, Some, None, Option, sym, ap, ◌∙◌}
use Rattle.slice_forms.specs.SliceForms.{is_slice_row}
use Rattle.client_replay.specs.Working.{slice_of}
use Rattle.client_replay.proofs.Form.{undone_form}
use Rattle.client_replay.proofs.Changing.{rule_tested}
use Rattle.client_replay.proofs.Seventh.{mends_sorted}
use Rattle.client_replay.proofs.Failures.{keeps_six, keeps_mends, broken_first, broken_seventh}
use Rattle.client_replay.proofs.undo.undo_record.Goals as goal

pub returns-in-Some-clause-rule : goal.returns-in-Some-clause-rule
returns-in-Some-clause-rule c = broken_first (slice_of c.args.working.now) c.args.step_record.now c.in-Some.rule (sym c.in-Some.ensures)

pub coming-requires : goal.coming-requires
coming-requires c = record { puts = (keeps_six (slice_of c.args.working.now) c.args.step_record.now (sym c.in_default.ensures)).puts }

pub keys_differ-requires : goal.keys_differ-requires
keys_differ-requires c =
    let s = slice_of c.args.working.now in
    let r = c.args.step_record.now in
    record { mends = mends_sorted s r (keeps_six s r (sym c.in_default.ensures)).mends }

pub returns-then-not-keys_differ-clause-rule : goal.returns-then-not-keys_differ-clause-rule
returns-then-not-keys_differ-clause-rule c =
    let w = c.args.working.now in
    let r = c.args.step_record.now in
    let none = sym c.in_default.ensures in
    let keys = rule_tested w r c.requires.sound (keeps_six (slice_of w) r none).mends c.in_ok-edges.edges.items c.as_slice.result.now c.in_ok-edges.ensures.permutation c.in_ok-edges.ensures.sorted
    c.as_slice.ensures.value c.keys_differ.result false c.keys_differ.ensures c.if-not-keys_differ.true in
    broken_seventh (slice_of w) r none ∙ ap (λ (b : Bool). cond {A = Option ℕ} b None (Some 7)) keys

pub returns-clause-rule : goal.returns-clause-rule
returns-clause-rule c =
    let w = c.args.working.now in
    let r = c.args.step_record.now in
    let none = sym c.in_default.ensures in
    let keys = rule_tested w r c.requires.sound (keeps_six (slice_of w) r none).mends c.in_ok-edges.edges.items c.as_slice.result.now c.in_ok-edges.ensures.permutation c.in_ok-edges.ensures.sorted
    c.as_slice.ensures.value c.keys_differ.result true c.keys_differ.ensures c.if-not-keys_differ.false in
    broken_seventh (slice_of w) r none ∙ ap (λ (b : Bool). cond {A = Option ℕ} b None (Some 7)) keys

pub returns-clause-form : goal.returns-clause-form
returns-clause-form c =
    let w = c.args.working.now in
    let r = c.args.step_record.now in
    let none = sym c.in_default.ensures in
    let keys = rule_tested w r c.requires.sound (keeps_six (slice_of w) r none).mends c.in_ok-edges.edges.items c.as_slice.result.now c.in_ok-edges.ensures.permutation c.in_ok-edges.ensures.sorted
    c.as_slice.ensures.value c.keys_differ.result true c.keys_differ.ensures c.if-not-keys_differ.false in
    ap is_slice_row c.in_ok-change.ensures.done ∙ undone_form (slice_of w) r c.requires.slice c.requires.record (keeps_mends (slice_of w) r (keeps_six (slice_of w) r none)) c.requires.room
    (keeps_six (slice_of w) r none).faces keys
