-- The room of the log of a disk in memory.
use Rattle.std.specs.Prelude.{ℕ, ◌+◌, ◌<◌, ◌≤◌, vec_len}
use Rattle.edit_journal.specs.declared.disk.log.DiskLog.{DiskLog}

-- one call more, with so many bytes
abbrev pub has_room_for : DiskLog → ℕ → Type 0
has_room_for log len = (vec_len log.steps < log.room) × (vec_len log.bytes + len ≤ log.room)
