-- Four tests, joined two by two.
use Rattle.std.proofs.Common.{◌≡◌, Bool, true, false, ◌&&◌, int_le, List, refl, sym, ap, ◌∙◌}
use Rattle.std.specs.List.{list_any}
use Rattle.tgap_model.specs.declared.geometry.Point.{Point}
use Rattle.tgap_model.specs.Slice.{meets_window}
use Rattle.client_replay.proofs.boxes.meets_window.Goals as goal

joined : (a c d : Bool) → a ≡ true → (c && d) ≡ ((a && c) && d)
joined true c d e = refl
joined false c d e = absurd cc

pub returns-then-meets_across : goal.returns-then-meets_across
returns-then-meets_across c =
    let area = c.args.area in
    let points = c.as_slice-points.result.now in
    let across = list_any (λ (p : Point). int_le p.x area.x1) points && list_any (λ (p : Point). int_le area.x0 p.x) points in
    c.meets_upright.ensures
    ∙ joined across (list_any (λ (p : Point). int_le p.y area.y1) points) (list_any (λ (p : Point). int_le area.y0 p.y) points)
    (sym c.meets_across.ensures ∙ c.if-meets_across.true)
    ∙ ap (λ (ps : List Point). meets_window area (record { key = 0; left = 0; right = 0; points = ps })) c.as_slice-points.ensures
