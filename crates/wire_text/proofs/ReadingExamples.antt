-- Texts that are read, and the first lines at fault of others, computed from the definitions.
use Rattle.std.proofs.Common.{◌≡◌, ℕ, [], ◌∷◌, Ok, Err, refl, true}
use Rattle.std.specs.Prelude.{codes, pos, negsuc}
use Rattle.std.specs.Fmt.{digits}
use Rattle.tgap_model.specs.declared.slice.Slice.{Slice}
use Rattle.tgap_model.specs.declared.record.Packet.{Packet}
use Rattle.line_forms.specs.Texts.{number_of}
use Rattle.line_forms.specs.ListingLines.{read_count, points_at, read_points}
use Rattle.wire_text.specs.SliceReading.{each_at, read_face_row, faces_at, edge_head_at, edge_at, edges_at, ended_at, read_put, puts_at, read_piece, pieces_at, read_mend_head, mend_at, mends_at, read_step_head, record_at, records_at, read_packet_head, last_at, slice_of_text, packet_of_text}

-- the line of a fault is the fault
abbrev line_alone : ℕ → ℕ
line_alone n = n

-- a slice of one face and one edge
abbrev one_face : Slice
one_face = record {
  step = 3;
  faces = record { face = 7; class = 2 } ∷ [];
  edges = record { key = 4; left = 7; right = 0; points = record { x = pos 0; y = pos 0 } ∷ record { x = pos 1; y = negsuc 1 } ∷ [] } ∷ [];
}

slice_is_read : slice_of_text line_alone (codes "slice 3\nfaces 1\nface 7 2\nedges 1\nedge 4 7 0 2 0 0 1 -2\nend\n") ≡ Ok one_face
unfolding slice_of_text each_at read_count faces_at read_face_row edges_at edge_at edge_head_at read_points points_at last_at number_of digits
slice_is_read = refl

-- its last line has no line feed
last_line_is_cut : slice_of_text line_alone (codes "slice 3\nfaces 1\nface 7 2\nedges 0\nend") ≡ Err 5
unfolding slice_of_text each_at read_count faces_at read_face_row edges_at edge_at edge_head_at read_points points_at last_at number_of digits
last_line_is_cut = refl

-- a line stands after the last one
line_after_the_last : slice_of_text line_alone (codes "slice 3\nfaces 0\nedges 0\nend\n\n") ≡ Err 5
unfolding slice_of_text each_at read_count faces_at read_face_row edges_at edge_at edge_head_at read_points points_at last_at number_of digits
line_after_the_last = refl

-- the second face has the number of the first
face_number_again : slice_of_text line_alone (codes "slice 3\nfaces 2\nface 7 2\nface 7 2\nedges 0\nend\n") ≡ Err 4
unfolding slice_of_text each_at read_count faces_at read_face_row edges_at edge_at edge_head_at read_points points_at last_at number_of digits
face_number_again = refl

-- a packet of one step, with a mend of a put and a piece
abbrev one_step : Packet
one_step = record {
  from = 1;
  to = 0;
  steps = record {
    step = 1;
    loser = 2;
    loser_class = 0;
    winner = 1;
    winner_class = 3;
    made = 9;
    mends = record {
      key = 4;
      puts = record { at = 1; point = record { x = pos 5; y = pos 6 } } ∷ [];
      pieces = record { key = 4; last = 2; side = 2; turned = true } ∷ [];
    } ∷ [];
    ended = [];
  } ∷ [];
}

packet_is_read : packet_of_text line_alone (codes "packet 1 0\nstep 1 2 0 1 3 9 1 0\nmend 4 1 1\nput 1 5 6\npiece 4 2 2 1\nend\n") ≡ Ok one_step
unfolding packet_of_text each_at records_at record_at read_packet_head read_step_head mends_at mend_at read_mend_head puts_at read_put pieces_at read_piece ended_at edge_at edge_head_at read_points points_at last_at number_of digits
packet_is_read = refl

-- the step is not the one that is to come
another_step : packet_of_text line_alone (codes "packet 2 0\nstep 1 2 0 1 3 9 0 0\nstep 1 2 0 1 3 9 0 0\nend\n") ≡ Err 2
unfolding packet_of_text each_at records_at record_at read_packet_head read_step_head mends_at mend_at read_mend_head puts_at read_put pieces_at read_piece ended_at edge_at edge_head_at read_points points_at last_at number_of digits
another_step = refl
