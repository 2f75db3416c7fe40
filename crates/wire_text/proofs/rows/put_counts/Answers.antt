use Rattle.std.proofs.Common.{map, decimal, ap, ◌∙◌, ◌++◌, List, ℕ}
use Rattle.plain_io.specs.Fields.{fields}
use Rattle.wire_text.proofs.PutRows.{row_ended}
use Rattle.wire_text.proofs.rows.put_counts.Goals as goal

pub returns : goal.returns
returns c =
    let words = map decimal c.args.counts.now in
    row_ended c.put_from.result c.args.out.now c.push_slice.new.self c.put_from.new.out _ c.args.keyword.now words c.in_ok-push_slice.ensures
    (c.write_counts-start.ensures.written ∙ ap (λ (text : List ℕ). fields words ++ text) c.write_byte-end.ensures.written) c.put_from.ensures
