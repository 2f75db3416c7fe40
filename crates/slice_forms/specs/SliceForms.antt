-- The form of slices, records and packets, those of a window too, as their texts have it: numbers that fit, rows in order, points within the limits.
use Rattle.std.specs.Prelude.{ℕ, zero, suc, ◌+◌, ◌-◌, ◌^◌, Bool, true, false, ◌&&◌, nat_le, nat_lt, int_le, ◌==◌, List, [], ◌∷◌, map, sum_by, length}
use Rattle.std.specs.List.{list_all}
use Rattle.lemmas.specs.Sorting.{is_sorted_by}
use Rattle.tgap_model.specs.declared.slice.Edge.{Edge}
use Rattle.tgap_model.specs.declared.slice.FaceRow.{FaceRow}
use Rattle.tgap_model.specs.declared.slice.Slice.{Slice}
use Rattle.tgap_model.specs.declared.record.Put.{Put}
use Rattle.tgap_model.specs.declared.record.Piece.{Piece}
use Rattle.tgap_model.specs.declared.record.Mend.{Mend}
use Rattle.tgap_model.specs.declared.record.StepRecord.{StepRecord}
use Rattle.tgap_model.specs.declared.record.Packet.{Packet}
use Rattle.tgap_model.specs.declared.window_record.WindowStep.{WindowStep}
use Rattle.tgap_model.specs.declared.window_record.WindowPacket.{WindowPacket}
use Rattle.tgap_model.specs.Base.{in_limits, no_repeat}
use Rattle.tgap_model.specs.WindowRecords.{whole_record}

-- the number is one from 0 to 4,294,967,295
abbrev pub is_number : ℕ → Bool
is_number n = nat_lt n (2 ^ 32)

-- an edge of two or more points within the limits, each other than the one before it
abbrev pub is_edge_row : Edge → Bool
is_edge_row e =
    is_number e.key && is_number e.left && is_number e.right && is_number (length e.points)
    && nat_le 2 (length e.points) && list_all in_limits e.points && no_repeat e.points

-- a face of a slice, which is not the outside
abbrev pub is_face_row : FaceRow → Bool
is_face_row f = nat_le 1 f.face && is_number f.face && is_number f.class

-- the faces stand in the order of their numbers, the edges in that of their keys
abbrev pub is_slice_row : Slice → Bool
is_slice_row s =
    is_number s.step && is_number (length s.faces) && is_number (length s.edges)
    && list_all is_face_row s.faces && is_sorted_by nat_lt (map (λ f. f.face) s.faces)
    && list_all is_edge_row s.edges && is_sorted_by nat_lt (map (λ e. e.key) s.edges)

abbrev pub is_put_row : Put → Bool
is_put_row p = is_number p.at && in_limits p.point

abbrev pub is_piece_row : Piece → Bool
is_piece_row p = is_number p.key && is_number p.last && is_number p.side

abbrev pub is_mend_row : Mend → Bool
is_mend_row m =
    is_number m.key && is_number (length m.puts) && is_number (length m.pieces)
    && list_all is_put_row m.puts && list_all is_piece_row m.pieces

-- of the numbers of a record nothing is asked but that they fit: whether they are of use is said against a slice
abbrev pub is_record_row : StepRecord → Bool
is_record_row r =
    is_number r.step && is_number r.loser && is_number r.loser_class && is_number r.winner && is_number r.winner_class
    && is_number r.made && is_number (length r.mends) && is_number (length r.ended)
    && list_all is_mend_row r.mends && list_all is_edge_row r.ended

-- the records are those of the steps from this one down, n in all
abbrev pub goes_down : ℕ → ℕ → List StepRecord → Bool
goes_down from zero [] = true
goes_down from zero (r ∷ records) = false
goes_down from (suc n) [] = false
goes_down from (suc n) (r ∷ records) = (r.step == from) && goes_down (from - 1) n records

-- the records lead from one step down to another
abbrev pub is_packet_row : Packet → Bool
is_packet_row p =
    is_number p.from && nat_le p.to p.from && list_all is_record_row p.steps && goes_down p.from (p.from - p.to) p.steps

-- of the numbers of a record of a window no more is asked, those of its faces included
abbrev pub is_window_step_row : WindowStep → Bool
is_window_step_row r =
    is_number r.step && is_number r.loser && is_number r.winner && is_number r.made
    && is_number (length r.faces) && is_number (length r.mends) && is_number (length r.comes)
    && list_all (λ f. is_number f.face && is_number f.class) r.faces
    && list_all is_mend_row r.mends && list_all is_edge_row r.comes

-- the window is one of the plane, and the records of it lead from one step down to another
abbrev pub is_window_packet_row : WindowPacket → Bool
is_window_packet_row p =
    is_number p.from && nat_le p.to p.from && int_le p.area.x0 p.area.x1 && int_le p.area.y0 p.area.y1
    && list_all is_window_step_row p.steps && goes_down p.from (p.from - p.to) (map whole_record p.steps)

-- ---- how much there is

-- the segments of edges
abbrev pub segment_count : List Edge → ℕ
segment_count edges = sum_by (λ e. length e.points - 1) edges

-- the puts of a record, and the segments of its ended edges
abbrev pub record_load : StepRecord → ℕ
record_load r = segment_count r.ended + sum_by (λ m. length m.puts) r.mends

-- the segments that a slice can come to have by these records
abbrev pub replay_load : Slice → List StepRecord → ℕ
replay_load s records = segment_count s.edges + sum_by record_load records

-- Where it is less than 4,294,967,295, places and counts fit all the way.
abbrev pub has_room : Slice → List StepRecord → Bool
has_room s records = nat_lt (replay_load s records) (2 ^ 32 - 1)
