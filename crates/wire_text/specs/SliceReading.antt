-- How the texts of slices and packets are read: one line after another, until a line is out of form. `bad` gives the fault of
-- the line with a number.
use Rattle.std.specs.Prelude.{◌≡◌, ℕ, zero, suc, ◌+◌, ◌-◌, ◌^◌, ◌==◌, List, [], ◌∷◌, codes, IsTrue, Option, Some, Result, Ok, Err, if◌then◌else◌}
use Rattle.std.specs.Option.{ok_or}
use Rattle.tgap_model.specs.declared.slice.Edge.{Edge}
use Rattle.tgap_model.specs.declared.slice.FaceRow.{FaceRow}
use Rattle.tgap_model.specs.declared.slice.Slice.{Slice}
use Rattle.tgap_model.specs.declared.record.Put.{Put}
use Rattle.tgap_model.specs.declared.record.Piece.{Piece}
use Rattle.tgap_model.specs.declared.record.Mend.{Mend}
use Rattle.tgap_model.specs.declared.record.StepRecord.{StepRecord}
use Rattle.tgap_model.specs.declared.record.Packet.{Packet}
use Rattle.tgap_model.specs.declared.limits.TheConstants.{MAX_COORDINATE}
use Rattle.line_forms.specs.Words.{Row, ◌>>=◌, after_word, natural_at, count_at, after_count, ended, read_words}
use Rattle.line_forms.specs.Lines.{Lines, ◌>>=◌ as ◌or>>=◌, all_lines, line_at, read_line, is_over}
use Rattle.line_forms.specs.ListingLines.{read_count, coordinate_at, read_points}
use Rattle.wire_text.specs.SliceTexts.{slice_text, packet_text}
use Rattle.slice_forms.specs.SliceForms.{is_slice_row, is_packet_row}

-- the bytes are the text of this slice
pub record IsSliceText (bytes : List ℕ) (s : Slice) : Type 0 where
  pub form : IsTrue (is_slice_row s)
  pub spelled : bytes ≡ slice_text s

-- the bytes are the text of this packet
pub record IsPacketText (bytes : List ℕ) (p : Packet) : Type 0 where
  pub form : IsTrue (is_packet_row p)
  pub spelled : bytes ≡ packet_text p

-- ---- the lines, each read word after word

-- a face with a number from `least` on, and its class
unfoldable pub read_face_row : ℕ → Row → Option FaceRow
read_face_row least row = do
  start ← after_word (codes "face") row
  face ← natural_at least (2 ^ 32 - 1) start
  class ← count_at face.1
  ended (record { face = face.0; class = class.0 }) class.1

-- The key of an edge, from `least` on, the faces at its left and right, and how many points it has, at least 2; and what stands
-- after them.
unfoldable pub edge_head_at : ℕ → Row → Option ((ℕ × ℕ × ℕ × ℕ) × Row)
edge_head_at least row = do
  start ← after_word (codes "edge") row
  key ← natural_at least (2 ^ 32 - 1) start
  left ← count_at key.1
  right ← count_at left.1
  count ← natural_at 2 (2 ^ 32 - 1) right.1
  Some ((key.0, left.0, right.0, count.0), count.1)

-- a vertex that comes back, and its place
unfoldable pub read_put : Row → Option Put
read_put row = do
  start ← after_word (codes "put") row
  at ← count_at start
  x ← coordinate_at at.1
  y ← coordinate_at x.1
  ended (record { at = at.0; point = record { x = x.0; y = y.0 } }) y.1

-- a piece, which runs against its edge where its last number is 1, and along it where that is 0
unfoldable pub read_piece : Row → Option Piece
read_piece row = do
  start ← after_word (codes "piece") row
  key ← count_at start
  last ← count_at key.1
  side ← count_at last.1
  turned ← natural_at 0 1 side.1
  ended (record { key = key.0; last = last.0; side = side.0; turned = turned.0 == 1 }) turned.1

-- the key of a mend, and how many puts and pieces it has
unfoldable pub read_mend_head : Row → Option (ℕ × ℕ × ℕ)
read_mend_head row = do
  start ← after_word (codes "mend") row
  key ← count_at start
  puts ← count_at key.1
  pieces ← count_at puts.1
  ended (key.0, puts.0, pieces.0) pieces.1

-- The first line of step j: loser and winner, each before its class, then the new face, then how many mends follow and how
-- many edges come back.
unfoldable pub read_step_head : ℕ → Row → Option (ℕ × ℕ × ℕ × ℕ × ℕ × ℕ × ℕ)
read_step_head j row = do
  start ← after_word (codes "step") row
  named ← after_count j start
  loser ← count_at named
  loser_class ← count_at loser.1
  winner ← count_at loser_class.1
  winner_class ← count_at winner.1
  made ← count_at winner_class.1
  mends ← count_at made.1
  ended_edges ← count_at mends.1
  ended (loser.0, loser_class.0, winner.0, winner_class.0, made.0, mends.0, ended_edges.0) ended_edges.1

-- the steps between which a packet leads: the second is not above the first
unfoldable pub read_packet_head : Row → Option (ℕ × ℕ)
read_packet_head row = do
  start ← after_word (codes "packet") row
  from ← count_at start
  to ← natural_at 0 from.0 from.1
  ended (from.0, to.0) to.1

-- ---- one thing after another

-- n things, each read by the number that it is to have: the first by this one, and each other one by what `next` makes of the
-- number before it and of what was read by that
unfoldable pub each_at : {A F : Type 0} → (ℕ → A → ℕ) → (ℕ → Lines → Result (A × Lines) F) → ℕ → ℕ → Lines → Result (List A × Lines) F
each_at next read k zero lines = Ok ([], lines)
each_at next read k (suc n) lines = read k lines or>>= λ first. each_at next read (next k first.0) n first.1 or>>= λ more. Ok (first.0 ∷ more.0, more.1)

-- a line of a keyword and a count
abbrev pub count_line_at : {F : Type 0} → (ℕ → F) → List ℕ → Lines → Result (ℕ × Lines) F
count_line_at bad keyword lines = read_line bad (read_count keyword 0 (2 ^ 32 - 1)) lines

-- n faces, whose numbers ascend from `least` on
unfoldable pub faces_at : {F : Type 0} → (ℕ → F) → ℕ → ℕ → Lines → Result (List FaceRow × Lines) F
faces_at bad least n lines = each_at (λ k f. f.face + 1) (λ k. read_line bad (read_face_row k)) least n lines

-- an edge, with a key from `least` on
unfoldable pub edge_at : {F : Type 0} → (ℕ → F) → ℕ → Lines → Result (Edge × Lines) F
edge_at bad least lines =
    ok_or (line_at lines) (bad lines.number) or>>= λ line.
    ok_or (edge_head_at least line.0) (bad lines.number) or>>= λ head.
    ok_or (read_points MAX_COORDINATE head.0.3 head.1) (bad lines.number) or>>= λ points.
    Ok (record { key = head.0.0; left = head.0.1; right = head.0.2; points = points }, line.1)

-- n edges, whose keys ascend from `least` on
unfoldable pub edges_at : {F : Type 0} → (ℕ → F) → ℕ → ℕ → Lines → Result (List Edge × Lines) F
edges_at bad least n lines = each_at (λ k e. e.key + 1) (edge_at bad) least n lines

-- n edges with any keys
unfoldable pub ended_at : {F : Type 0} → (ℕ → F) → ℕ → Lines → Result (List Edge × Lines) F
ended_at bad n lines = each_at (λ k e. k) (edge_at bad) 0 n lines

-- n vertices that come back
unfoldable pub puts_at : {F : Type 0} → (ℕ → F) → ℕ → Lines → Result (List Put × Lines) F
puts_at bad n lines = each_at (λ k p. k) (λ k. read_line bad read_put) 0 n lines

-- n pieces
unfoldable pub pieces_at : {F : Type 0} → (ℕ → F) → ℕ → Lines → Result (List Piece × Lines) F
pieces_at bad n lines = each_at (λ k p. k) (λ k. read_line bad read_piece) 0 n lines

-- a mend: its puts, and then its pieces
unfoldable pub mend_at : {F : Type 0} → (ℕ → F) → Lines → Result (Mend × Lines) F
mend_at bad lines =
    read_line bad read_mend_head lines or>>= λ head.
    puts_at bad head.0.1 head.1 or>>= λ puts.
    pieces_at bad head.0.2 puts.1 or>>= λ pieces.
    Ok (record { key = head.0.0; puts = puts.0; pieces = pieces.0 }, pieces.1)

-- n mends
unfoldable pub mends_at : {F : Type 0} → (ℕ → F) → ℕ → Lines → Result (List Mend × Lines) F
mends_at bad n lines = each_at (λ k m. k) (λ k. mend_at bad) 0 n lines

-- the record of step j: its mends, and then the edges that come back
unfoldable pub record_at : {F : Type 0} → (ℕ → F) → ℕ → Lines → Result (StepRecord × Lines) F
record_at bad j lines =
    read_line bad (read_step_head j) lines or>>= λ head.
    mends_at bad head.0.5 head.1 or>>= λ mends.
    ended_at bad head.0.6 mends.1 or>>= λ edges.
    Ok (
      record {
        step = j;
        loser = head.0.0;
        loser_class = head.0.1;
        winner = head.0.2;
        winner_class = head.0.3;
        made = head.0.4;
        mends = mends.0;
        ended = edges.0;
      },
      edges.1,
    )

-- the records of the n steps from step j down
unfoldable pub records_at : {F : Type 0} → (ℕ → F) → ℕ → ℕ → Lines → Result (List StepRecord × Lines) F
records_at bad j n lines = each_at (λ k r. k - 1) (record_at bad) j n lines

-- the last line, and nothing after it
unfoldable pub last_at : {F : Type 0} → (ℕ → F) → Lines → Result (Unit {0}) F
last_at bad lines = read_line bad (read_words (codes "end" ∷ [])) lines or>>= λ last. if is_over last.1.rows then Ok tt else Err (bad last.1.number)

-- ---- the whole text

-- the slice of which the bytes are the text, or the fault of the first line that is out of form
unfoldable pub slice_of_text : {F : Type 0} → (ℕ → F) → List ℕ → Result Slice F
slice_of_text bad bytes =
    count_line_at bad (codes "slice") (all_lines bytes) or>>= λ step.
    count_line_at bad (codes "faces") step.1 or>>= λ many_faces.
    faces_at bad 1 many_faces.0 many_faces.1 or>>= λ faces.
    count_line_at bad (codes "edges") faces.1 or>>= λ many_edges.
    edges_at bad 0 many_edges.0 many_edges.1 or>>= λ edges.
    last_at bad edges.1 or>>= λ end.
    Ok (record { step = step.0; faces = faces.0; edges = edges.0 })

-- the packet of which the bytes are the text, or the fault of the first line that is out of form
unfoldable pub packet_of_text : {F : Type 0} → (ℕ → F) → List ℕ → Result Packet F
packet_of_text bad bytes =
    read_line bad read_packet_head (all_lines bytes) or>>= λ head.
    records_at bad head.0.0 (head.0.0 - head.0.1) head.1 or>>= λ records.
    last_at bad records.1 or>>= λ end.
    Ok (record { from = head.0.0; to = head.0.1; steps = records.0 })
