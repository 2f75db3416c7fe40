-- The four tests in a row.
use Rattle.std.proofs.Common.{Bool, ◌&&◌, int_le, List, sym, ap, ◌∙◌}
use Rattle.std.specs.List.{list_any}
use Rattle.tgap_model.specs.declared.geometry.Point.{Point}
use Rattle.tgap_model.specs.Slice.{meets_window}
use Rattle.refine_packets.proofs.sight.meets_window.Goals as goal

pub returns-then-meets_from_below : goal.returns-then-meets_from_below
returns-then-meets_from_below c =
    let area = c.args.area.now in
    let points = c.as_slice-points.result.now in
    c.is_above.ensures
    ∙ ap (λ (b : Bool). b && list_any (λ (p : Point). int_le area.y0 p.y) points) (sym c.if-meets_from_below.true ∙ c.meets_from_below.ensures)
    ∙ ap (λ (ps : List Point). meets_window area (record { key = 0; left = 0; right = 0; points = ps })) c.as_slice-points.ensures
