use Rattle.std.proofs.Common.{rules}
use Rattle.version_store.proofs.Names.{lends}
use Rattle.version_store.proofs.seat.publish.SeatOf+V+N+Growing.into_name.Goals as goal

pub split_seat-requires : goal.split_seat-requires
split_seat-requires g c = (search rules, search rules, lends _ _ _ _)
