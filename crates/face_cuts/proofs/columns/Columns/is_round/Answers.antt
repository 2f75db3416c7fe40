use Rattle.std.proofs.Common.{◌≡◌, ◌∙◌, ◌<◌, List, ℕ, All, get_or, length, map, sym, ap₂, subst, arith}
use Rattle.std.specs.Prelude.{count_by}
use Rattle.std.proofs.lemmas.List.{length-map}
use Rattle.lemmas.specs.Parity.{is_odd}
use Rattle.tgap_model.specs.declared.geometry.Seg.{Seg}
use Rattle.grid_index.specs.Near.{near_boxes}
use Rattle.ring_walk.specs.Areas.{is_over}
use Rattle.ring_walk.specs.Sides.{origin}
use Rattle.face_cuts.specs.Columns.{line_box, span_box}
use Rattle.face_cuts.proofs.NearColumns.{near_inside, near_round}
use Rattle.face_cuts.proofs.columns.Columns.is_round.Goals as goal

abbrev none : Seg
none = record { a = origin; b = origin }

pub are_over_odd-requires-clause-places : goal.are_over_odd-requires-clause-places
are_over_odd-requires-clause-places c =
    let segments = c.args.self.now.segments in
    let places : c.as_slice-2.result.now ≡ near_boxes (line_box c.args.probe) (map span_box segments) = c.as_slice-2.ensures ∙ c.in_ok-places.ensures ∙ ap₂ near_boxes c.line_box.ensures c.requires.columns.boxes in
    subst (λ (ss : List Seg). All (λ place. place < length ss) c.as_slice-2.result.now) (sym c.as_slice.ensures)
    (subst (All (λ place. place < length segments)) (sym places) (near_inside (line_box c.args.probe) 0 (map span_box segments) (length segments) (omega (arith, length-map segments span_box))))

pub returns : goal.returns
returns c =
    let segments = c.args.self.now.segments in
    let places : c.as_slice-2.result.now ≡ near_boxes (line_box c.args.probe) (map span_box segments) = c.as_slice-2.ensures ∙ c.in_ok-places.ensures ∙ ap₂ near_boxes c.line_box.ensures c.requires.columns.boxes in
    c.are_over_odd.ensures none
    ∙ ap₂ (λ (ss : List Seg) (ps : List ℕ). is_odd (count_by (λ (p : ℕ). is_over c.args.probe (get_or ss p none)) ps)) c.as_slice.ensures places
    ∙ near_round c.args.probe none segments
