-- How long texts are: a line has at least as many bytes as words.
use Rattle.std.proofs.Common.{◌≡◌, ℕ, suc, ◌+◌, ◌-◌, ◌*◌, ◌≤◌, List, [], ◌∷◌, ◌++◌, length, map, Result, Ok, Err, refl, ap, ◌∙◌, arith}
use Rattle.std.specs.Prelude.{codes, decimal, IfOk}
use Rattle.std.specs.List.{flat_map, join_with_byte, sum_by}
use Rattle.std.proofs.lemmas.List.{length-append}
use Rattle.std.proofs.lemmas.List.Sums.{sum_by-cons}
use Rattle.tgap_model.specs.declared.geometry.Point.{Point}
use Rattle.tgap_model.specs.declared.slice.Edge.{Edge}
use Rattle.tgap_model.specs.declared.slice.Slice.{Slice}
use Rattle.tgap_model.specs.declared.record.Put.{Put}
use Rattle.tgap_model.specs.declared.record.Mend.{Mend}
use Rattle.tgap_model.specs.declared.record.StepRecord.{StepRecord}
use Rattle.tgap_model.specs.declared.record.Packet.{Packet}
use Rattle.line_forms.specs.Texts.{line, lines}
use Rattle.line_forms.specs.Words.{Row}
use Rattle.map_forms.specs.Listing.{point_words, count_words}
use Rattle.wire_text.specs.SliceTexts.{edge_words, face_words, put_words, piece_words, mend_rows, record_rows}
use Rattle.slice_forms.specs.SliceForms.{segment_count, record_load}
use Rattle.wire_text.specs.SliceReading.{IsSliceText, IsPacketText}
use Rattle.wire_text.proofs.SliceLaws.{sections, one_by_one}

-- words that are joined have at least as many bytes as there are words, but one
joined_length : (words : Row) → length words ≤ length (join_with_byte 32 words) + 1
joined_length [] = omega arith
joined_length (w ∷ []) = omega arith
joined_length (w ∷ v ∷ words) =
    let more = joined_length (v ∷ words) in
    let sum : length (join_with_byte 32 (w ∷ v ∷ words)) ≡ length w + suc (length (join_with_byte 32 (v ∷ words))) = length-append w (32 ∷ join_with_byte 32 (v ∷ words)) in
    omega (arith, more, sum)

-- and a line has at least as many
pub line_length : (words : Row) → length words ≤ length (line words)
line_length words =
    let sum : length (line words) ≡ length (join_with_byte 32 words) + 1 = length-append (join_with_byte 32 words) (10 ∷ []) in
    omega (arith, joined_length words, sum)

-- how many words these rows have
abbrev pub word_count : List Row → ℕ
word_count [] = 0
word_count (row ∷ rows) = length row + word_count rows

pub lines_length : (rows : List Row) → word_count rows ≤ length (lines rows)
lines_length [] = omega arith
lines_length (row ∷ rows) =
    let sum : length (lines (row ∷ rows)) ≡ length (line row) + length (lines rows) = length-append (line row) (lines rows) in
    omega (arith, line_length row, lines_length rows, sum)

-- rows one after the other
pub count-append : (rows more : List Row) → word_count (rows ++ more) ≡ word_count rows + word_count more
count-append [] more = omega arith
count-append (row ∷ rows) more = omega (arith, count-append rows more)

-- points have two words each
points_length : (points : List Point) → length (flat_map point_words points) ≡ 2 * length points
points_length [] = refl
points_length (p ∷ points) = omega (arith, points_length points)

-- the rows of edges have two words for each segment, and more
pub edges_length : (edges : List Edge) → 2 * segment_count edges ≤ word_count (map edge_words edges)
edges_length [] = omega arith
edges_length (e ∷ edges) =
    let sum : segment_count (e ∷ edges) ≡ (length e.points - 1) + segment_count edges = sum_by-cons (λ (d : Edge). length d.points - 1) e edges in
    let words : length (flat_map point_words e.points) ≡ 2 * length e.points = points_length e.points in
    omega (arith, edges_length edges, sum, words)

-- one bound after the other
bounded : (a b c d e : ℕ) → a ≤ b → b ≤ c → c ≤ d → e ≡ d → a ≤ e
bounded a b c d e h0 h1 h2 h3 = omega arith

-- some of these rows
part_length : (head many : Row) (front : List Row) (next : Row) (part last : List Row) → word_count part ≤ word_count (head ∷ many ∷ (front ++ (next ∷ (part ++ last))))
part_length head many front next part last = omega (arith, count-append front (next ∷ (part ++ last)), count-append part last)

-- the segments of a slice, by the length of its text
slice_length : (bytes : List ℕ) (s : Slice) → IsSliceText bytes s → 2 * segment_count s.edges ≤ length bytes
slice_length bytes s is =
    let rows : List Row = sections s [] in
    let long : length bytes ≡ length (lines rows) = ap length is.spelled ∙ ap (λ (r : List Row). length (lines r)) (one_by_one s) in
    let some : word_count (map edge_words s.edges) ≤ word_count rows =
    part_length (count_words (codes "slice") s.step) (count_words (codes "faces") (length s.faces)) (map face_words s.faces)
    (count_words (codes "edges") (length s.edges)) (map edge_words s.edges) ((codes "end" ∷ []) ∷ []) in
    bounded (2 * segment_count s.edges) (word_count (map edge_words s.edges)) (word_count rows) (length (lines rows)) (length bytes) (edges_length s.edges) some (lines_length rows) long

-- of what is read
pub slice_room : {E : Type 0} (bytes : List ℕ) (r : Result Slice E) → IfOk r (IsSliceText bytes) → IfOk r (λ s. 2 * segment_count s.edges ≤ length bytes)
slice_room bytes (Ok s) is = slice_length bytes s is
slice_room bytes (Err e) is = tt

-- ---- packets

-- the row of a put has four words
puts_length : (puts : List Put) → word_count (map put_words puts) ≡ 4 * length puts
puts_length [] = refl
puts_length (p ∷ puts) = omega (arith, puts_length puts)

-- the rows of a mend have two words for each put, and more
mend_length : (m : Mend) → 2 * length m.puts ≤ word_count (mend_rows m)
mend_length m = omega (arith, count-append (map put_words m.puts) (map piece_words m.pieces), puts_length m.puts)

mends_length : (mends : List Mend) → 2 * sum_by (λ m. length m.puts) mends ≤ word_count (flat_map mend_rows mends)
mends_length [] = omega arith
mends_length (m ∷ mends) =
    let sum : sum_by (λ n. length n.puts) (m ∷ mends) ≡ length m.puts + sum_by (λ n. length n.puts) mends = sum_by-cons (λ (n : Mend). length n.puts) m mends in
    omega (arith, mends_length mends, sum, mend_length m, count-append (mend_rows m) (flat_map mend_rows mends))

-- the rows of a record have two words for each put and each segment
record_length : (r : StepRecord) → 2 * record_load r ≤ word_count (record_rows r)
record_length r = omega (arith, count-append (flat_map mend_rows r.mends) (map edge_words r.ended), mends_length r.mends, edges_length r.ended)

records_length : (records : List StepRecord) → 2 * sum_by record_load records ≤ word_count (flat_map record_rows records)
records_length [] = omega arith
records_length (r ∷ records) =
    let sum : sum_by record_load (r ∷ records) ≡ record_load r + sum_by record_load records = sum_by-cons record_load r records in
    omega (arith, records_length records, sum, record_length r, count-append (record_rows r) (flat_map record_rows records))

-- the load of a packet, by the length of its text
packet_length : (bytes : List ℕ) (p : Packet) → IsPacketText bytes p → 2 * sum_by record_load p.steps ≤ length bytes
packet_length bytes p is =
    let head : Row = codes "packet" ∷ decimal p.from ∷ decimal p.to ∷ [] in
    let last : List Row = (codes "end" ∷ []) ∷ [] in
    let rows : List Row = head ∷ (flat_map record_rows p.steps ++ last) in
    let long : length bytes ≡ length (lines rows) = ap length is.spelled in
    let some : word_count (flat_map record_rows p.steps) ≤ word_count rows = omega (arith, count-append (flat_map record_rows p.steps) last) in
    bounded (2 * sum_by record_load p.steps) (word_count (flat_map record_rows p.steps)) (word_count rows) (length (lines rows)) (length bytes) (records_length p.steps) some (lines_length rows) long

-- of what is read
pub packet_room : {E : Type 0} (bytes : List ℕ) (r : Result Packet E) → IfOk r (IsPacketText bytes) → IfOk r (λ p. 2 * sum_by record_load p.steps ≤ length bytes)
packet_room bytes (Ok p) is = packet_length bytes p is
packet_room bytes (Err e) is = tt
