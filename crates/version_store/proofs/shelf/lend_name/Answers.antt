use Rattle.std.proofs.Common.{rules}
use Rattle.version_store.proofs.Names.{lends, takes_name}
use Rattle.version_store.proofs.shelf.lend_name.Goals as goal

pub split_seat-name-requires : goal.split_seat-name-requires
split_seat-name-requires g c = (search rules, search rules, lends _ _ _ _)

pub join_seat-requires : goal.join_seat-requires
join_seat-requires g c = (search rules, search rules, search rules, search rules, takes_name _ _ _ _ _ _ (search rules))
