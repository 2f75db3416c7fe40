use Rattle.std.proofs.Common.{◌≡◌, IsTrue, drop}
use Rattle.slice_forms.specs.SliceForms.{is_slice_row, has_room}
use Rattle.client_replay.specs.Replaying.{undone}
use Rattle.client_replay.specs.Working.{slice_of, IsSound}
use Rattle.client_replay.proofs.packet.undo_all.Given as goal

-- the records so far are undone, and what all of them make is what those that are left make
abbrev pub invariant-loop-step_record : goal.invariant-loop-step_record
invariant-loop-step_record l = record {
  sound : IsSound l.working;
  left : undone (slice_of l.initial.working) l.records ≡ undone (slice_of l.working) (drop l.step_record-index l.records);
  form : IsTrue (is_slice_row (slice_of l.working));
  room : IsTrue (has_room (slice_of l.working) (drop l.step_record-index l.records));
}
