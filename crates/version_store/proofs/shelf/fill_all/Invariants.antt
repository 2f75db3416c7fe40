use Rattle.std.proofs.Common.{◌≡◌, ◌≤◌, ◌+◌, length, vec_len}
use Rattle.version_store.specs.Rule.{AreOwners}
use Rattle.version_store.specs.Steps.{IsOn}
use Rattle.version_store.proofs.Holders.{IsFilling}
use Rattle.version_store.proofs.shelf.fill_all.Given as goal

-- the slots up to this one are filled, one for each owner that is gone, and the owners that are left are owners of the version
abbrev pub invariant-loop-owner : goal.invariant-loop-owner
invariant-loop-owner g l =
    IsOn l.fn.shelf.table_id l.fn.shelf.key l.place
    × IsFilling l.fn.place.me.0 l.fn.first l.slot l.fn.version l.place.me
    × (l.slot + length l.owner-iterator.rest.items ≡ l.fn.first + vec_len l.fn.owners)
    × (l.fn.first ≤ l.slot)
    × AreOwners l.fn.version l.owner-iterator.rest.items
