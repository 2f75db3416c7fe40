use Rattle.std.proofs.Common.{arith, append-nil, map, decimal}
use Rattle.std.specs.Prelude.{flat_map}
use Rattle.std.proofs.lemmas.List.{drop_all}
use Rattle.map_forms.specs.Listing.{point_words}
use Rattle.wire_text.proofs.PutRows.{words_put}
use Rattle.wire_text.proofs.rows.put_many.Goals as goal

pub loop-rest-init : goal.loop-rest-init
loop-rest-init c =
    words_put c.args.out.now c.put_from.new.out (map decimal c.args.counts) (flat_map point_words c.args.points.now)
    (rw (c.write_counts-start.ensures.written, drop_all 1429 c.args.room.now.bytes (omega arith), append-nil) at c.in_ok-put_from.ensures)
