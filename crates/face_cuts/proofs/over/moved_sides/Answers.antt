use Rattle.std.proofs.Common.{◌≡◌, ◌∙◌, ◌||◌, ◌&&◌, List, All, IfOk, filter, length, sym, ap, ap₂, subst}
use Rattle.std.specs.List.{list_any}
use Rattle.tgap_model.specs.declared.geometry.Point.{Point}
use Rattle.ring_walk.specs.declared.side.Side.{Side}
use Rattle.ring_walk.specs.Sides.{same_side}
use Rattle.ring_walk.specs.Spans.{IsRing, IsSide}
use Rattle.face_cuts.specs.Cuts.{goes_over, lines_of}
use Rattle.face_cuts.specs.Moves.{AreRingsOf, moved_sides}
use Rattle.face_cuts.specs.Sectors.{spans_of}
use Rattle.face_cuts.specs.SideSets.{has}
use Rattle.face_cuts.specs.Tables.{sides_beside}
use Rattle.face_cuts.proofs.OverRings.{kept_are}
use Rattle.face_cuts.proofs.SpansOfArcs.{beside_within, rings_within}
use Rattle.face_cuts.proofs.over.moved_sides.Goals as goal

pub rings_of-requires-clause-row : goal.rings_of-requires-clause-row
rings_of-requires-clause-row g c =
    let arcs = g.T.ArcTable.arcs c.args.table.now in
    subst (All (IsSide (length arcs))) (sym (c.deref.ensures.value ∙ c.in_ok-beside.ensures)) (beside_within arcs c.args.face)

pub moved_set-requires-clause-each : goal.moved_set-requires-clause-each
moved_set-requires-clause-each g c =
    let arcs = g.T.ArcTable.arcs c.args.table.now in
    subst (All (IsRing (length arcs))) (sym c.as_slice.ensures) (rings_within arcs c.in_ok-rings.rings c.in_ok-rings.ensures.formed)

pub returns : goal.returns
returns g c =
    let arcs = g.T.ArcTable.arcs c.args.table.now in
    let points = c.args.points.now in
    let walk = c.args.walk.now in
    let ring = c.in_ok-ring.ring in
    let moved = c.in_ok-moved.moved in
    let rings = c.in_ok-rings.rings in
    let beside : c.deref.result.now ≡ sides_beside (spans_of arcs) c.args.face = c.deref.ensures.value ∙ c.in_ok-beside.ensures in
    let each : (s : Side) → has moved s ≡ (list_any (same_side s) walk || list_any (λ r. goes_over (lines_of arcs) points walk r && list_any (same_side s) r) rings) = λ s.
    c.in_ok-moved.ensures s
    ∙ ap (λ (rs : List (List Side)). list_any (same_side s) ring.walk.now || list_any (λ r. goes_over (lines_of arcs) ring.points.now ring.walk.now r && list_any (same_side s) r) rs) c.as_slice.ensures
    ∙ ap₂ (λ (ps : List Point) (w : List Side). list_any (same_side s) w || list_any (λ r. goes_over (lines_of arcs) ps w r && list_any (same_side s) r) rings) c.in_ok-ring.ensures.points c.in_ok-ring.ensures.walk in
    let all : filter (has moved) c.deref-2.result.now ≡ moved_sides arcs c.args.face points walk =
    ap (filter (has moved)) (c.deref-2.ensures.value ∙ c.in_ok-beside.ensures)
    ∙ kept_are arcs points walk (sides_beside (spans_of arcs) c.args.face) rings (has moved)
    (subst (λ (row : List Side). AreRingsOf (spans_of arcs) row rings) beside c.in_ok-rings.ensures) each in
    subst (λ (ss : List Side). IfOk c.kept.result (λ found. found ≡ ss)) all c.kept.ensures
