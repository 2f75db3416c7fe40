use Rattle.std.proofs.Common.{[], ◌∷◌}
use Rattle.plain_io.proofs.Fields.{last_pushed}
use Rattle.area_listing.proofs.Writing.{arc_put}
use Rattle.area_listing.proofs.write.put_arc.Goals as goal

pub returns : goal.returns
returns c =
    let size = rw c.len.ensures at c.in_ok-put_size.ensures in
    let points = rw c.as_slice.ensures at c.in_ok-put_points.ensures in
    last_pushed c.push_slice-2.result c.put_points.new.out c.push_slice-2.new.self (10 ∷ []) _ c.push_slice-2.ensures
    (arc_put c.args.out.now c.push_slice.new.self c.put_count.new.out c.put_count-2.new.out c.put_size.new.out c.put_points.new.out c.args.arc.now
    c.in_ok-push_slice.ensures c.in_ok-put_count.ensures c.in_ok-put_count-2.ensures size points)
