-- The links so far and the entries that are left are the entries of the slot.
use Rattle.std.proofs.Common.{◌≡◌, ◌++◌, map}
use Rattle.face_merge.proofs.Linked.{entry_link, entries_at}
use Rattle.face_merge.proofs.links.Links.of.Given as goal

abbrev pub invariant-loop-slots : goal.invariant-loop-slots
invariant-loop-slots l = l.links.items ++ map entry_link l.slots-iterator ≡ map entry_link (entries_at l.self.lengths l.slot)
