-- The texts of slices, windows, packets and packets of a window.
use Rattle.std.specs.Prelude.{ℕ, List, [], ◌∷◌, ◌++◌, map, flat_map, length, decimal, codes, if◌then◌else◌}
use Rattle.std.specs.Fmt.{signed_decimal}
use Rattle.tgap_model.specs.declared.geometry.Window.{Window}
use Rattle.tgap_model.specs.declared.slice.Edge.{Edge}
use Rattle.tgap_model.specs.declared.slice.FaceRow.{FaceRow}
use Rattle.tgap_model.specs.declared.slice.Slice.{Slice}
use Rattle.tgap_model.specs.declared.record.Put.{Put}
use Rattle.tgap_model.specs.declared.record.Piece.{Piece}
use Rattle.tgap_model.specs.declared.record.Mend.{Mend}
use Rattle.tgap_model.specs.declared.record.StepRecord.{StepRecord}
use Rattle.tgap_model.specs.declared.record.Packet.{Packet}
use Rattle.tgap_model.specs.declared.window_record.WindowStep.{WindowStep}
use Rattle.tgap_model.specs.declared.window_record.WindowPacket.{WindowPacket}
use Rattle.line_forms.specs.Texts.{lines}
use Rattle.line_forms.specs.Words.{Row}
use Rattle.map_forms.specs.Listing.{point_words, count_words}

abbrev pub edge_words : Edge → Row
edge_words e = codes "edge" ∷ decimal e.key ∷ decimal e.left ∷ decimal e.right ∷ decimal (length e.points) ∷ flat_map point_words e.points

abbrev pub face_words : FaceRow → Row
face_words f = codes "face" ∷ decimal f.face ∷ decimal f.class ∷ []

-- the lines of a slice or a window after the first one
abbrev pub slice_rows : Slice → List Row
slice_rows s =
    count_words (codes "faces") (length s.faces) ∷ map face_words s.faces
    ++ count_words (codes "edges") (length s.edges) ∷ map edge_words s.edges
    ++ (codes "end" ∷ []) ∷ []

abbrev pub slice_text : Slice → List ℕ
slice_text s = lines (count_words (codes "slice") s.step ∷ slice_rows s)

abbrev pub window_words : ℕ → Window → Row
window_words k w =
    codes "window" ∷ decimal k ∷ signed_decimal w.x0 ∷ signed_decimal w.y0 ∷ signed_decimal w.x1 ∷ signed_decimal w.y1 ∷ []

abbrev pub window_text : Window → Slice → List ℕ
window_text w s = lines (window_words s.step w ∷ slice_rows s)

abbrev pub put_words : Put → Row
put_words p = codes "put" ∷ decimal p.at ∷ point_words p.point

abbrev pub piece_words : Piece → Row
piece_words p = codes "piece" ∷ decimal p.key ∷ decimal p.last ∷ decimal p.side ∷ decimal (if p.turned then 1 else 0) ∷ []

abbrev pub mend_rows : Mend → List Row
mend_rows m =
    (codes "mend" ∷ decimal m.key ∷ decimal (length m.puts) ∷ decimal (length m.pieces) ∷ [])
    ∷ map put_words m.puts ++ map piece_words m.pieces

abbrev pub step_words : StepRecord → Row
step_words r =
    codes "step" ∷ decimal r.step ∷ decimal r.loser ∷ decimal r.loser_class ∷ decimal r.winner ∷ decimal r.winner_class
    ∷ decimal r.made ∷ decimal (length r.mends) ∷ decimal (length r.ended) ∷ []

abbrev pub record_rows : StepRecord → List Row
record_rows r = step_words r ∷ flat_map mend_rows r.mends ++ map edge_words r.ended

abbrev pub packet_text : Packet → List ℕ
packet_text p =
    lines ((codes "packet" ∷ decimal p.from ∷ decimal p.to ∷ []) ∷ flat_map record_rows p.steps ++ (codes "end" ∷ []) ∷ [])

abbrev pub window_packet_words : WindowPacket → Row
window_packet_words p =
    codes "window-packet" ∷ decimal p.from ∷ decimal p.to
    ∷ signed_decimal p.area.x0 ∷ signed_decimal p.area.y0 ∷ signed_decimal p.area.x1 ∷ signed_decimal p.area.y1 ∷ []

abbrev pub window_step_words : WindowStep → Row
window_step_words r =
    codes "step" ∷ decimal r.step ∷ decimal r.loser ∷ decimal r.winner ∷ decimal r.made
    ∷ decimal (length r.faces) ∷ decimal (length r.mends) ∷ decimal (length r.comes) ∷ []

abbrev pub window_step_rows : WindowStep → List Row
window_step_rows r =
    window_step_words r ∷ map face_words r.faces ++ flat_map mend_rows r.mends ++ map edge_words r.comes

abbrev pub window_packet_text : WindowPacket → List ℕ
window_packet_text p = lines (window_packet_words p ∷ flat_map window_step_rows p.steps ++ (codes "end" ∷ []) ∷ [])
