use Rattle.std.proofs.Common.{[], ◌∷◌}
use Rattle.plain_io.proofs.Fields.{last_pushed}
use Rattle.area_listing.proofs.Writing.{class_put}
use Rattle.area_listing.proofs.write.put_class.Goals as goal

pub returns : goal.returns
returns c =
    last_pushed c.push_slice-2.result c.put_counts.new.out c.push_slice-2.new.self (10 ∷ []) _ c.push_slice-2.ensures
    (class_put c.args.out.now c.push_slice.new.self c.put_size.new.out c.put_count.new.out c.put_counts.new.out c.args.class c.args.weight c.args.compat.now
    c.in_ok-push_slice.ensures c.in_ok-put_size.ensures c.in_ok-put_count.ensures c.in_ok-put_counts.ensures)
