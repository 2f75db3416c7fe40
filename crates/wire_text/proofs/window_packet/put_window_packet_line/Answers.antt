use Rattle.std.proofs.Common.{[], ◌∷◌, ◌++◌, decimal, codes, refl}
use Rattle.std.specs.Fmt.{signed_decimal}
use Rattle.line_forms.specs.Words.{Row}
use Rattle.plain_io.specs.Fields.{fields}
use Rattle.wire_text.proofs.PutRows.{row_ended}
use Rattle.wire_text.proofs.window_packet.put_window_packet_line.Goals as goal

pub returns : goal.returns
returns c =
    let p = c.args.packet.now in
    let words : Row = decimal p.from ∷ decimal p.to ∷ signed_decimal p.area.x0 ∷ signed_decimal p.area.y0 ∷ signed_decimal p.area.x1 ∷ signed_decimal p.area.y1 ∷ [] in
    row_ended c.put_ends.result c.args.out.now c.push_slice.new.self c.put_ends.new.out (fields words ++ 10 ∷ []) (codes "window-packet") words
    c.in_ok-push_slice.ensures refl c.put_ends.ensures
