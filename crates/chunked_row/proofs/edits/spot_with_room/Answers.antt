use Rattle.std.proofs.Common.{List, ℕ, ◌<◌, length, sym, subst}
use Rattle.chunked_row.proofs.Joined.{some_chunk, some_number}
use Rattle.chunked_row.proofs.edits.spot_with_room.Goals as goal

pub spot_of-requires-clause-some : goal.spot_of-requires-clause-some
spot_of-requires-clause-some c =
    some_chunk c.split.new.chunks (subst (λ (zs : List ℕ). 0 < length zs) (sym c.in_ok-split.ensures.same) (some_number c.args.chunks.now c.requires.full c.requires.some))
