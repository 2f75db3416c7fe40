use Rattle.client_replay.specs.Coming.{pieces_of, coming}
use Rattle.client_replay.specs.Working.{slice_of, edges_of, rows_of}
use Rattle.client_replay.proofs.Failures.{keeps_six, step_at_least_one}
use Rattle.client_replay.proofs.Form.{face_facts}
use Rattle.client_replay.proofs.FaceRows.{not_found}
use Rattle.client_replay.proofs.Seventh.{both_apart}
use Rattle.client_replay.proofs.Changing.{lines_sorted, lines_in_order, undone_is}
use Rattle.client_replay.proofs.undo.change.Goals as goal

pub change_edges-requires-clause-apart : goal.change_edges-requires-clause-apart
unfolding coming
change_edges-requires-clause-apart c =
    let w = c.args.working.now in
    let s = slice_of w in
    let r = c.args.step_record.now in
    both_apart s r (pieces_of r) r.ended (lines_in_order w.labels w.lines.entries c.requires.sound.lines) (keeps_six s r c.requires.rules).mends
    c.args.edges.items c.requires.coming c.requires.keys

pub part-requires-clause-loser : goal.part-requires-clause-loser
part-requires-clause-loser c =
    let w = c.args.working.now in
    let r = c.args.step_record.now in
    not_found r.loser w.faces.entries (face_facts (slice_of w) r (keeps_six (slice_of w) r c.requires.rules).faces).no_loser

pub part-requires-clause-winner : goal.part-requires-clause-winner
part-requires-clause-winner c =
    let w = c.args.working.now in
    let r = c.args.step_record.now in
    not_found r.winner w.faces.entries (face_facts (slice_of w) r (keeps_six (slice_of w) r c.requires.rules).faces).no_winner

pub part-requires-clause-apart : goal.part-requires-clause-apart
part-requires-clause-apart c =
    let w = c.args.working.now in
    let r = c.args.step_record.now in
    (face_facts (slice_of w) r (keeps_six (slice_of w) r c.requires.rules).faces).differ

pub overflow_sub-working : goal.overflow_sub-working
overflow_sub-working c =
    let s = slice_of c.args.working.now in
    let r = c.args.step_record.now in
    step_at_least_one s r (keeps_six s r c.requires.rules).step

pub returns-clause-done : goal.returns-clause-done
returns-clause-done c =
    let w = c.args.working.now in
    let s = slice_of w in
    let r = c.args.step_record.now in
    let put = c.in_ok-change_edges.ensures.put in
    undone_is w r c.requires.sound (keeps_six s r c.requires.rules).mends c.args.edges.items c.requires.coming (rows_of c.part.new.faces.entries)
    (edges_of c.change_edges.new.labels c.change_edges.new.lines.entries) c.in_ok-part.ensures.parted
    (lines_sorted c.change_edges.new.labels c.change_edges.new.lines.entries c.in_ok-change_edges.ensures.ordered) put
