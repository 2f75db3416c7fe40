use Rattle.std.proofs.Common.{is_ok, cond, ap, ◌∙◌}
use Rattle.std.specs.List.{insert, concat}
use Rattle.chunked_row.proofs.Joined.{joined_insert_if}
use Rattle.chunked_row.proofs.edits.insert_at.Goals as goal

pub returns-clause-inserted : goal.returns-clause-inserted
returns-clause-inserted c =
    let s = c.in_ok-spot.spot in
    let e = c.in_ok-spot.ensures.spot in
    let b = is_ok c.insert_in.result in
    let y = c.args.number in
    joined_insert_if b c.spot_with_room.new.chunks s.chunk s.index y c.insert_in.new.self e.chunk e.index c.insert_in.ensures
    ∙ ap (λ j. cond b (insert (concat c.spot_with_room.new.chunks) j y) (concat c.spot_with_room.new.chunks)) e.before
    ∙ ap (λ zs. cond b (insert zs c.args.place y) zs) c.in_ok-spot.ensures.same
