use Rattle.std.proofs.Common.{sym, ap, ◌∙◌}
use Rattle.tgap_model.specs.Records.{fits_step, fits_mends, fits_puts, fits_pieces}
use Rattle.tgap_model.specs.WindowRecords.{fits_faces_in, fits_comes}
use Rattle.client_replay.specs.Windows.{mending_of, broken_before_in}
use Rattle.client_replay.specs.Working.{slice_of}
use Rattle.client_replay.proofs.Failures.{first, second, third, fourth, fifth, sixth, none_fails}
use Rattle.client_replay.proofs.window_rules.broken_before_in.Goals as goal

pub returns-then-not-fits_step : goal.returns-then-not-fits_step
unfolding broken_before_in
returns-then-not-fits_step c =
    let s = slice_of c.args.working.now in
    let r = c.args.step.now in
    let same = sym c.requires.same in
    first (fits_step s (mending_of r)) (fits_faces_in s r) (fits_mends s (mending_of r)) (fits_puts s (mending_of r)) (fits_pieces s (mending_of r)) (fits_comes s r)
    (ap (fits_step s) same ∙ sym c.fits_step.ensures ∙ c.if-not-fits_step.true)

pub returns-then-not-fits_faces_in : goal.returns-then-not-fits_faces_in
unfolding broken_before_in
returns-then-not-fits_faces_in c =
    let s = slice_of c.args.working.now in
    let r = c.args.step.now in
    let same = sym c.requires.same in
    second (fits_step s (mending_of r)) (fits_faces_in s r) (fits_mends s (mending_of r)) (fits_puts s (mending_of r)) (fits_pieces s (mending_of r)) (fits_comes s r)
    (ap (fits_step s) same ∙ sym c.fits_step.ensures ∙ c.if-not-fits_step.false) (sym c.fits_faces_in.ensures ∙ c.if-not-fits_faces_in.true)

pub returns-then-not-fits_mends : goal.returns-then-not-fits_mends
unfolding broken_before_in
returns-then-not-fits_mends c =
    let s = slice_of c.args.working.now in
    let r = c.args.step.now in
    let same = sym c.requires.same in
    third (fits_step s (mending_of r)) (fits_faces_in s r) (fits_mends s (mending_of r)) (fits_puts s (mending_of r)) (fits_pieces s (mending_of r)) (fits_comes s r)
    (ap (fits_step s) same ∙ sym c.fits_step.ensures ∙ c.if-not-fits_step.false) (sym c.fits_faces_in.ensures ∙ c.if-not-fits_faces_in.false) (ap (fits_mends s) same ∙ sym c.fits_mends.ensures ∙ c.if-not-fits_mends.true)

pub returns-then-not-fits_puts : goal.returns-then-not-fits_puts
unfolding broken_before_in
returns-then-not-fits_puts c =
    let s = slice_of c.args.working.now in
    let r = c.args.step.now in
    let same = sym c.requires.same in
    fourth (fits_step s (mending_of r)) (fits_faces_in s r) (fits_mends s (mending_of r)) (fits_puts s (mending_of r)) (fits_pieces s (mending_of r)) (fits_comes s r)
    (ap (fits_step s) same ∙ sym c.fits_step.ensures ∙ c.if-not-fits_step.false) (sym c.fits_faces_in.ensures ∙ c.if-not-fits_faces_in.false) (ap (fits_mends s) same ∙ sym c.fits_mends.ensures ∙ c.if-not-fits_mends.false) (ap (fits_puts s) same ∙ sym c.fits_puts.ensures ∙ c.if-not-fits_puts.true)

pub returns-then-not-fits_pieces : goal.returns-then-not-fits_pieces
unfolding broken_before_in
returns-then-not-fits_pieces c =
    let s = slice_of c.args.working.now in
    let r = c.args.step.now in
    let same = sym c.requires.same in
    fifth (fits_step s (mending_of r)) (fits_faces_in s r) (fits_mends s (mending_of r)) (fits_puts s (mending_of r)) (fits_pieces s (mending_of r)) (fits_comes s r)
    (ap (fits_step s) same ∙ sym c.fits_step.ensures ∙ c.if-not-fits_step.false) (sym c.fits_faces_in.ensures ∙ c.if-not-fits_faces_in.false) (ap (fits_mends s) same ∙ sym c.fits_mends.ensures ∙ c.if-not-fits_mends.false) (ap (fits_puts s) same ∙ sym c.fits_puts.ensures ∙ c.if-not-fits_puts.false) (ap (fits_pieces s) same ∙ sym c.fits_pieces.ensures ∙ c.if-not-fits_pieces.true)

pub returns-then-not-fits_comes : goal.returns-then-not-fits_comes
unfolding broken_before_in
returns-then-not-fits_comes c =
    let s = slice_of c.args.working.now in
    let r = c.args.step.now in
    let same = sym c.requires.same in
    sixth (fits_step s (mending_of r)) (fits_faces_in s r) (fits_mends s (mending_of r)) (fits_puts s (mending_of r)) (fits_pieces s (mending_of r)) (fits_comes s r)
    (ap (fits_step s) same ∙ sym c.fits_step.ensures ∙ c.if-not-fits_step.false) (sym c.fits_faces_in.ensures ∙ c.if-not-fits_faces_in.false) (ap (fits_mends s) same ∙ sym c.fits_mends.ensures ∙ c.if-not-fits_mends.false) (ap (fits_puts s) same ∙ sym c.fits_puts.ensures ∙ c.if-not-fits_puts.false) (ap (fits_pieces s) same ∙ sym c.fits_pieces.ensures ∙ c.if-not-fits_pieces.false) (sym c.fits_comes.ensures ∙ c.if-not-fits_comes.true)

pub returns-else-not-fits_comes : goal.returns-else-not-fits_comes
unfolding broken_before_in
returns-else-not-fits_comes c =
    let s = slice_of c.args.working.now in
    let r = c.args.step.now in
    let same = sym c.requires.same in
    none_fails (fits_step s (mending_of r)) (fits_faces_in s r) (fits_mends s (mending_of r)) (fits_puts s (mending_of r)) (fits_pieces s (mending_of r)) (fits_comes s r)
    (ap (fits_step s) same ∙ sym c.fits_step.ensures ∙ c.if-not-fits_step.false) (sym c.fits_faces_in.ensures ∙ c.if-not-fits_faces_in.false) (ap (fits_mends s) same ∙ sym c.fits_mends.ensures ∙ c.if-not-fits_mends.false) (ap (fits_puts s) same ∙ sym c.fits_puts.ensures ∙ c.if-not-fits_puts.false) (ap (fits_pieces s) same ∙ sym c.fits_pieces.ensures ∙ c.if-not-fits_pieces.false) (sym c.fits_comes.ensures ∙ c.if-not-fits_comes.false)
