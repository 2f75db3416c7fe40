use Rattle.std.proofs.Common.{◌≡◌, ◌≤◌, vec_len, All}
use Rattle.std.specs.Arc.{arc_value}
use Rattle.std.specs.Vec.{vec_capacity}
use Rattle.version_store.specs.Store.{IsNewSeat, AreSeatsFrom}
use Rattle.version_store.proofs.fresh.open.FreshOf+V+Growing.open.Given as goal

-- the press has made a seat for each number so far, and there is room for all
abbrev pub invariant-loop-index : goal.invariant-loop-index
invariant-loop-index g l =
    (l.place.table_id ≡ l.fn.self.place.table_id)
    × (l.place.me ≡ (record l.fn.self.place.me.0 { seats = l.index }, l.fn.self.place.me.1))
    × All (IsNewSeat (arc_value l.fn.self.first) l.fn.self.limit) l.seats.items
    × AreSeatsFrom 1 l.seats.items
    × (vec_len l.seats ≡ l.index)
    × (vec_capacity l.seats ≡ l.fn.self.places)
    × (l.index ≤ l.fn.self.places)
