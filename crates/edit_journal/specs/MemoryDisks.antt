-- What a disk in memory holds.
use Rattle.plain_io.specs.declared.calls.Calls.{Calls}
use Rattle.edit_journal.specs.declared.disk.memory.MemoryDisk.{MemoryDisk}

-- the calls that were made, and those that fail
abbrev pub disk_calls : MemoryDisk → Calls
disk_calls disk = disk.calls
