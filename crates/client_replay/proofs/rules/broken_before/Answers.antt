use Rattle.std.proofs.Common.{sym, ◌∙◌}
use Rattle.tgap_model.specs.Records.{fits_step, fits_faces, fits_mends, fits_puts, fits_pieces, fits_ended}
use Rattle.client_replay.proofs.Failures.{first, second, third, fourth, fifth, sixth, none_fails}
use Rattle.client_replay.specs.Rules.{broken_before}
use Rattle.client_replay.specs.Working.{slice_of}
use Rattle.client_replay.proofs.rules.broken_before.Goals as goal

pub returns-then-not-fits_step : goal.returns-then-not-fits_step
unfolding broken_before
returns-then-not-fits_step c =
    let s = slice_of c.args.working.now in
    let r = c.args.step_record.now in
    first (fits_step s r) (fits_faces s r) (fits_mends s r) (fits_puts s r) (fits_pieces s r) (fits_ended s r)
    (sym c.fits_step.ensures ∙ c.if-not-fits_step.true)

pub returns-then-not-fits_faces : goal.returns-then-not-fits_faces
unfolding broken_before
returns-then-not-fits_faces c =
    let s = slice_of c.args.working.now in
    let r = c.args.step_record.now in
    second (fits_step s r) (fits_faces s r) (fits_mends s r) (fits_puts s r) (fits_pieces s r) (fits_ended s r)
    (sym c.fits_step.ensures ∙ c.if-not-fits_step.false) (sym c.fits_faces.ensures ∙ c.if-not-fits_faces.true)

pub returns-then-not-fits_mends : goal.returns-then-not-fits_mends
unfolding broken_before
returns-then-not-fits_mends c =
    let s = slice_of c.args.working.now in
    let r = c.args.step_record.now in
    third (fits_step s r) (fits_faces s r) (fits_mends s r) (fits_puts s r) (fits_pieces s r) (fits_ended s r)
    (sym c.fits_step.ensures ∙ c.if-not-fits_step.false) (sym c.fits_faces.ensures ∙ c.if-not-fits_faces.false) (sym c.fits_mends.ensures ∙ c.if-not-fits_mends.true)

pub returns-then-not-fits_puts : goal.returns-then-not-fits_puts
unfolding broken_before
returns-then-not-fits_puts c =
    let s = slice_of c.args.working.now in
    let r = c.args.step_record.now in
    fourth (fits_step s r) (fits_faces s r) (fits_mends s r) (fits_puts s r) (fits_pieces s r) (fits_ended s r)
    (sym c.fits_step.ensures ∙ c.if-not-fits_step.false) (sym c.fits_faces.ensures ∙ c.if-not-fits_faces.false) (sym c.fits_mends.ensures ∙ c.if-not-fits_mends.false) (sym c.fits_puts.ensures ∙ c.if-not-fits_puts.true)

pub returns-then-not-fits_pieces : goal.returns-then-not-fits_pieces
unfolding broken_before
returns-then-not-fits_pieces c =
    let s = slice_of c.args.working.now in
    let r = c.args.step_record.now in
    fifth (fits_step s r) (fits_faces s r) (fits_mends s r) (fits_puts s r) (fits_pieces s r) (fits_ended s r)
    (sym c.fits_step.ensures ∙ c.if-not-fits_step.false) (sym c.fits_faces.ensures ∙ c.if-not-fits_faces.false) (sym c.fits_mends.ensures ∙ c.if-not-fits_mends.false) (sym c.fits_puts.ensures ∙ c.if-not-fits_puts.false) (sym c.fits_pieces.ensures ∙ c.if-not-fits_pieces.true)

pub returns-then-not-fits_ended : goal.returns-then-not-fits_ended
unfolding broken_before
returns-then-not-fits_ended c =
    let s = slice_of c.args.working.now in
    let r = c.args.step_record.now in
    sixth (fits_step s r) (fits_faces s r) (fits_mends s r) (fits_puts s r) (fits_pieces s r) (fits_ended s r)
    (sym c.fits_step.ensures ∙ c.if-not-fits_step.false) (sym c.fits_faces.ensures ∙ c.if-not-fits_faces.false) (sym c.fits_mends.ensures ∙ c.if-not-fits_mends.false) (sym c.fits_puts.ensures ∙ c.if-not-fits_puts.false) (sym c.fits_pieces.ensures ∙ c.if-not-fits_pieces.false) (sym (c.fits_ended.ensures s) ∙ c.if-not-fits_ended.true)

pub returns-else-not-fits_ended : goal.returns-else-not-fits_ended
unfolding broken_before
returns-else-not-fits_ended c =
    let s = slice_of c.args.working.now in
    let r = c.args.step_record.now in
    none_fails (fits_step s r) (fits_faces s r) (fits_mends s r) (fits_puts s r) (fits_pieces s r) (fits_ended s r)
    (sym c.fits_step.ensures ∙ c.if-not-fits_step.false) (sym c.fits_faces.ensures ∙ c.if-not-fits_faces.false) (sym c.fits_mends.ensures ∙ c.if-not-fits_mends.false) (sym c.fits_puts.ensures ∙ c.if-not-fits_puts.false) (sym c.fits_pieces.ensures ∙ c.if-not-fits_pieces.false) (sym (c.fits_ended.ensures s) ∙ c.if-not-fits_ended.false)
