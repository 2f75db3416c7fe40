use Rattle.std.proofs.Common.{[], ◌∷◌, arith, map, decimal}
use Rattle.std.specs.Prelude.{flat_map}
use Rattle.std.proofs.lemmas.List.{drop_all}
use Rattle.map_forms.specs.Listing.{point_words}
use Rattle.wire_text.proofs.PutRows.{words_then}
use Rattle.wire_text.proofs.rows.put_few.Goals as goal

pub returns : goal.returns
returns c =
    rw (
      c.write_counts-start.ensures.written,
      c.write_points-first.ensures.written,
      c.write_byte-end.ensures.written,
      drop_all 1429 c.args.room.now.bytes (omega arith),
      words_then (map decimal c.args.counts) (flat_map point_words c.args.points.now) (10 ∷ []),
    ) at c.put_from.ensures
