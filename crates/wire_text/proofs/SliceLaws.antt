-- The two laws of the text of a slice: what is read is spelled so, and what is spelled so is read.
use Rattle.std.proofs.Common.{◌≡◌, ◌≢◌, ℕ, ◌+◌, ◌-◌, ◌^◌, ◌≤◌, true, ◌&&◌, nat_le, nat_lt, List, [], ◌∷◌, ◌++◌, length, map, Result, Ok, Err, refl, sym, ap, subst, ◌∙◌, append_assoc, arith}
use Rattle.std.specs.Prelude.{codes, IfOk}
use Rattle.std.specs.List.{list_all}
use Rattle.std.proofs.lemmas.Bool.{and_from, and_parts, le-leb, leb-true}
use Rattle.std.proofs.lemmas.List.{append-nil}
use Rattle.std.proofs.lemmas.List.Concat.{flat_map_single}
use Rattle.std.proofs.lemmas.List.Folds.{list_all-append}
use Rattle.lemmas.specs.Sorting.{is_sorted_by}
use Rattle.tgap_model.specs.declared.failure.Or.{Or}
use Rattle.tgap_model.specs.declared.failure.Or.TheVariants.{Fault}
use Rattle.tgap_model.specs.declared.slice.Edge.{Edge}
use Rattle.tgap_model.specs.declared.slice.FaceRow.{FaceRow}
use Rattle.tgap_model.specs.declared.slice.Slice.{Slice}
use Rattle.line_forms.specs.Texts.{rows_of}
use Rattle.line_forms.specs.Words.{Row}
use Rattle.line_forms.specs.Lines.{Lines, all_lines, next_number, read_line}
use Rattle.line_forms.specs.ListingLines.{read_count}
use Rattle.map_forms.specs.Listing.{count_words}
use Rattle.wire_text.specs.SliceTexts.{face_words, edge_words, slice_rows}
use Rattle.slice_forms.specs.SliceForms.{is_number, is_face_row, is_edge_row, is_slice_row}
use Rattle.wire_text.specs.SliceReading.{IsSliceText, count_line_at, read_face_row, faces_at, edge_at, edges_at, last_at, slice_of_text}
use Rattle.plain_io.specs.Taking.{GivesWhole}
use Rattle.plain_io.proofs.Rows.{is_plain_row, lines_from_rows, rows_again}
use Rattle.plain_io.proofs.Steps.{bound, read_line_is, read_line_again, lines_from, some_rows}
use Rattle.wire_text.specs.declared.row_reading.BadText.{BadText}
use Rattle.wire_text.specs.Reading.{bad_text}
use Rattle.wire_text.proofs.Counts.{count_row_is, count_row_again, count_row_plain}
use Rattle.wire_text.proofs.Each.{each_fits, each_is, each_again, each_plain, all_from_each, each_from_sorted, sorted_from_each, StartsFrom}
use Rattle.wire_text.proofs.LineForms.{fits_face, face_facts, face_reader, fits_edge, edge_reader}
use Rattle.wire_text.proofs.LastLine.{last_rows, last_is, last_again}

-- a line of a count
pub count_line_is : {F : Type 0} (bad : ℕ → F) (word : List ℕ) (lines : Lines) (x : ℕ × Lines) → count_line_at bad word lines ≡ Ok x
    → (lines.rows ≡ count_words word x.0 ∷ x.1.rows) × (is_number x.0 ≡ true)
count_line_is bad word lines x e =
    let row = read_line_is bad (read_count word 0 (2 ^ 32 - 1)) lines x e in
    let one = count_row_is word row.0 x.0 row.2 in
    (row.1 ∙ ap (λ (r : Row). r ∷ x.1.rows) one.0, one.1)

pub count_line_again : {F : Type 0} (bad : ℕ → F) (word : List ℕ) (n k : ℕ) (rest : List Row) → rest ≢ [] → is_number k ≡ true
    → count_line_at bad word (lines_from n (count_words word k ∷ rest)) ≡ Ok (k, lines_from (next_number n) rest)
count_line_again bad word n k rest some small = read_line_again bad (read_count word 0 (2 ^ 32 - 1)) n (count_words word k) rest k some (count_row_again word k small)

-- ---- the faces

-- the number after that of a face
abbrev after_face : ℕ → FaceRow → ℕ
after_face k f = f.face + 1

-- faces that are read are spelled so, in their form
record AreFaces (n : ℕ) (lines : Lines) (x : List FaceRow × Lines) : Type 0 where
  spelled : lines.rows ≡ map face_words x.0 ++ x.1.rows
  count : length x.0 ≡ n
  form : list_all is_face_row x.0 ≡ true
  sorted : is_sorted_by nat_lt (map (λ f. f.face) x.0) ≡ true

-- a face from a number that is not 0 on
face_form : (k : ℕ) (f : FaceRow) → 1 ≤ k → fits_face k f ≡ true → (1 ≤ after_face k f) × (is_face_row f ≡ true)
face_form k f some h =
    let facts = face_facts k f h in
    (omega arith, rw (le-leb 1 f.face (omega (arith, facts.from)), facts.face, facts.class) refl)

faces_are : {F : Type 0} (bad : ℕ → F) (n : ℕ) (lines : Lines) (x : List FaceRow × Lines) → faces_at bad 1 n lines ≡ Ok x → AreFaces n lines x
unfolding faces_at
faces_are bad n lines x e =
    let all = each_is after_face (λ k. read_line bad (read_face_row k)) fits_face (λ f. face_words f ∷ []) (face_reader bad) 1 n lines x e in
    record {
      spelled = all.spelled ∙ ap (λ (rows : List Row). rows ++ x.1.rows) (flat_map_single face_words x.0);
      count = all.count;
      form = all_from_each after_face fits_face (λ k. 1 ≤ k) is_face_row face_form 1 x.0 (omega arith) all.fit;
      sorted = sorted_from_each (λ f. f.face) fits_face (λ k f h. (face_facts k f h).from) 1 x.0 all.fit;
    }

-- a face from its number on
face_fits : (k : ℕ) (f : FaceRow) → k ≤ f.face → is_face_row f ≡ true → fits_face k f ≡ true
face_fits k f from h =
    let last = and_parts (nat_le 1 f.face && is_number f.face) (is_number f.class) h in
    let first = and_parts (nat_le 1 f.face) (is_number f.face) last.0 in
    rw (le-leb k f.face from, first.1, last.1) refl

-- the first of faces in their form is 1 or above it
faces_start : (faces : List FaceRow) → list_all is_face_row faces ≡ true → StartsFrom (λ f. f.face) 1 faces
faces_start [] h = tt
faces_start (f ∷ faces) h =
    let one = and_parts (is_face_row f) (list_all is_face_row faces) h in
    let last = and_parts (nat_le 1 f.face && is_number f.face) (is_number f.class) one.0 in
    leb-true 1 f.face (and_parts (nat_le 1 f.face) (is_number f.face) last.0).0

-- faces in their form fit
faces_fit : (faces : List FaceRow) → list_all is_face_row faces ≡ true → is_sorted_by nat_lt (map (λ f. f.face) faces) ≡ true → each_fits after_face fits_face 1 faces ≡ true
faces_fit faces form sorted = each_from_sorted (λ f. f.face) fits_face is_face_row face_fits 1 faces (faces_start faces form) form sorted

faces_again : {F : Type 0} (bad : ℕ → F) (n : ℕ) (faces : List FaceRow) (rest : List Row) → rest ≢ [] → each_fits after_face fits_face 1 faces ≡ true
    → (m : ℕ) × (faces_at bad 1 (length faces) (lines_from n (map face_words faces ++ rest)) ≡ Ok (faces, lines_from m rest))
unfolding faces_at
faces_again bad n faces rest some fit =
    let all = each_again after_face (λ k. read_line bad (read_face_row k)) fits_face (λ f. face_words f ∷ []) (face_reader bad) 1 n faces rest some fit in
    (all.0, ap (λ (rows : List Row). faces_at bad 1 (length faces) (lines_from n (rows ++ rest))) (sym (flat_map_single face_words faces)) ∙ all.1)

faces_plain : (faces : List FaceRow) → each_fits after_face fits_face 1 faces ≡ true → list_all is_plain_row (map face_words faces) ≡ true
faces_plain faces fit =
    ap (list_all is_plain_row) (sym (flat_map_single face_words faces))
    ∙ each_plain after_face (λ k. read_line bad_text (read_face_row k)) fits_face (λ f. face_words f ∷ []) (face_reader bad_text) 1 faces fit

-- ---- the edges

-- the number after the key of an edge
abbrev after_edge : ℕ → Edge → ℕ
after_edge k e = e.key + 1

-- edges that are read are spelled so, in their form
record AreEdges (n : ℕ) (lines : Lines) (x : List Edge × Lines) : Type 0 where
  spelled : lines.rows ≡ map edge_words x.0 ++ x.1.rows
  count : length x.0 ≡ n
  form : list_all is_edge_row x.0 ≡ true
  sorted : is_sorted_by nat_lt (map (λ e. e.key) x.0) ≡ true

edge_form : (k : ℕ) (e : Edge) → Unit {0} → fits_edge k e ≡ true → Unit {0} × (is_edge_row e ≡ true)
edge_form k e always h = (tt, (and_parts (nat_le k e.key) (is_edge_row e) h).1)

edge_from : (k : ℕ) (e : Edge) → fits_edge k e ≡ true → k ≤ e.key
edge_from k e h = leb-true k e.key (and_parts (nat_le k e.key) (is_edge_row e) h).0

edges_are : {F : Type 0} (bad : ℕ → F) (n : ℕ) (lines : Lines) (x : List Edge × Lines) → edges_at bad 0 n lines ≡ Ok x → AreEdges n lines x
unfolding edges_at
edges_are bad n lines x e =
    let all = each_is after_edge (edge_at bad) fits_edge (λ d. edge_words d ∷ []) (edge_reader bad) 0 n lines x e in
    record {
      spelled = all.spelled ∙ ap (λ (rows : List Row). rows ++ x.1.rows) (flat_map_single edge_words x.0);
      count = all.count;
      form = all_from_each after_edge fits_edge (λ k. Unit {0}) is_edge_row edge_form 0 x.0 tt all.fit;
      sorted = sorted_from_each (λ d. d.key) fits_edge edge_from 0 x.0 all.fit;
    }

edge_fits : (k : ℕ) (e : Edge) → k ≤ e.key → is_edge_row e ≡ true → fits_edge k e ≡ true
edge_fits k e from h = and_from _ _ (le-leb k e.key from) h

edges_start : (edges : List Edge) → StartsFrom (λ e. e.key) 0 edges
edges_start [] = tt
edges_start (e ∷ edges) = omega arith

edges_fit : (edges : List Edge) → list_all is_edge_row edges ≡ true → is_sorted_by nat_lt (map (λ e. e.key) edges) ≡ true → each_fits after_edge fits_edge 0 edges ≡ true
edges_fit edges form sorted = each_from_sorted (λ e. e.key) fits_edge is_edge_row edge_fits 0 edges (edges_start edges) form sorted

edges_again : {F : Type 0} (bad : ℕ → F) (n : ℕ) (edges : List Edge) (rest : List Row) → rest ≢ [] → each_fits after_edge fits_edge 0 edges ≡ true
    → (m : ℕ) × (edges_at bad 0 (length edges) (lines_from n (map edge_words edges ++ rest)) ≡ Ok (edges, lines_from m rest))
unfolding edges_at
edges_again bad n edges rest some fit =
    let all = each_again after_edge (edge_at bad) fits_edge (λ d. edge_words d ∷ []) (edge_reader bad) 0 n edges rest some fit in
    (all.0, ap (λ (rows : List Row). edges_at bad 0 (length edges) (lines_from n (rows ++ rest))) (sym (flat_map_single edge_words edges)) ∙ all.1)

edges_plain : (edges : List Edge) → each_fits after_edge fits_edge 0 edges ≡ true → list_all is_plain_row (map edge_words edges) ≡ true
edges_plain edges fit =
    ap (list_all is_plain_row) (sym (flat_map_single edge_words edges))
    ∙ each_plain after_edge (edge_at bad_text) fits_edge (λ d. edge_words d ∷ []) (edge_reader bad_text) 0 edges fit

-- ---- the whole text

-- the rows of a slice and those after them
abbrev pub sections : Slice → List Row → List Row
sections s rest =
    count_words (codes "slice") s.step ∷ count_words (codes "faces") (length s.faces) ∷ (map face_words s.faces
    ++ (count_words (codes "edges") (length s.edges) ∷ (map edge_words s.edges ++ (codes "end" ∷ []) ∷ rest)))

-- all rows of its text
abbrev pub all_rows : Slice → List Row
all_rows s = count_words (codes "slice") s.step ∷ slice_rows s

-- are these
regrouped : (s : Slice) (rest : List Row) → all_rows s ++ rest ≡ sections s rest
regrouped s rest = simp append_assoc

-- alone
pub one_by_one : (s : Slice) → all_rows s ≡ sections s []
one_by_one s = sym (append-nil (all_rows s)) ∙ regrouped s []

-- what a slice of the form passes
pub record SliceFacts (s : Slice) : Type 0 where
  pub step : is_number s.step ≡ true
  pub many_faces : is_number (length s.faces) ≡ true
  pub many_edges : is_number (length s.edges) ≡ true
  pub faces : list_all is_face_row s.faces ≡ true
  pub faces_sorted : is_sorted_by nat_lt (map (λ f. f.face) s.faces) ≡ true
  pub edges : list_all is_edge_row s.edges ≡ true
  pub edges_sorted : is_sorted_by nat_lt (map (λ e. e.key) s.edges) ≡ true

pub slice_facts : (s : Slice) → is_slice_row s ≡ true → SliceFacts s
slice_facts s h =
    let faces_in_order = is_sorted_by nat_lt (map (λ f. f.face) s.faces) in
    let edges_in_order = is_sorted_by nat_lt (map (λ e. e.key) s.edges) in
    let p6 = and_parts (is_number s.step && is_number (length s.faces) && is_number (length s.edges) && list_all is_face_row s.faces && faces_in_order && list_all is_edge_row s.edges) edges_in_order h in
    let p5 = and_parts (is_number s.step && is_number (length s.faces) && is_number (length s.edges) && list_all is_face_row s.faces && faces_in_order) (list_all is_edge_row s.edges) p6.0 in
    let p4 = and_parts (is_number s.step && is_number (length s.faces) && is_number (length s.edges) && list_all is_face_row s.faces) faces_in_order p5.0 in
    let p3 = and_parts (is_number s.step && is_number (length s.faces) && is_number (length s.edges)) (list_all is_face_row s.faces) p4.0 in
    let p2 = and_parts (is_number s.step && is_number (length s.faces)) (is_number (length s.edges)) p3.0 in
    let p1 = and_parts (is_number s.step) (is_number (length s.faces)) p2.0 in
    record { step = p1.0; many_faces = p1.1; many_edges = p2.1; faces = p3.1; faces_sorted = p4.1; edges = p5.1; edges_sorted = p6.1 }

-- What is read is spelled so.
pub slice_spelled : {F : Type 0} (bad : ℕ → F) (bytes : List ℕ) (s : Slice) → slice_of_text bad bytes ≡ Ok s → IsSliceText bytes s
unfolding slice_of_text
slice_spelled bad bytes s e =
    bound _ (count_line_at bad (codes "slice") (all_lines bytes)) s e (λ step e0 r0.
    bound _ (count_line_at bad (codes "faces") step.1) s r0 (λ many_faces e1 r1.
    bound _ (faces_at bad 1 many_faces.0 many_faces.1) s r1 (λ faces e2 r2.
    bound _ (count_line_at bad (codes "edges") faces.1) s r2 (λ many_edges e3 r3.
    bound _ (edges_at bad 0 many_edges.0 many_edges.1) s r3 (λ edges e4 r4.
    bound _ (last_at bad edges.1) s r4 (λ end e5 r5.
    let g0 = count_line_is bad (codes "slice") (all_lines bytes) step e0 in
    let g1 = count_line_is bad (codes "faces") step.1 many_faces e1 in
    let g2 = faces_are bad many_faces.0 many_faces.1 faces e2 in
    let g3 = count_line_is bad (codes "edges") faces.1 many_edges e3 in
    let g4 = edges_are bad many_edges.0 many_edges.1 edges e4 in
    let f0 = g0.0 in
    let f1 = g1.0 in
    let f2 = g2.spelled in
    let f3 = g3.0 in
    let f4 = g4.spelled in
    let f5 = last_is bad edges.1 end e5 in
    let n0 = g2.count in
    let n1 = g4.count in
    let made : Slice = record { step = step.0; faces = faces.0; edges = edges.0 } in
    let same : made ≡ s = cc in
    let rows : rows_of bytes ≡ sections made (([] ∷ []) ∷ []) = cc in
    let many : is_number (length faces.0) ≡ true = ap is_number n0 ∙ g1.1 in
    let more : is_number (length edges.0) ≡ true = ap is_number n1 ∙ g3.1 in
    let form : is_slice_row made ≡ true = rw (g0.1, many, more, g2.form, g2.sorted, g4.form, g4.sorted) refl in
    subst (λ (t : Slice). IsSliceText bytes t) same
    (record { form = form; spelled = lines_from_rows bytes (all_rows made) (rows ∙ sym (regrouped made (([] ∷ []) ∷ []))) })))))))

-- no word of the text of a slice has a separator
slice_plain : (s : Slice) → SliceFacts s → list_all is_plain_row (all_rows s) ≡ true
slice_plain s facts =
    let last : List Row = (codes "end" ∷ []) ∷ [] in
    let of_edges = list_all-append is_plain_row (map edge_words s.edges) last ∙ and_from _ _ (edges_plain s.edges (edges_fit s.edges facts.edges facts.edges_sorted)) refl in
    let with_edges : list_all is_plain_row (count_words (codes "edges") (length s.edges) ∷ (map edge_words s.edges ++ last)) ≡ true =
    and_from _ _ (count_row_plain (codes "edges") (length s.edges) refl facts.many_edges) of_edges in
    let of_faces = list_all-append is_plain_row (map face_words s.faces) (count_words (codes "edges") (length s.edges) ∷ (map edge_words s.edges ++ last))
    ∙ and_from _ _ (faces_plain s.faces (faces_fit s.faces facts.faces facts.faces_sorted)) with_edges in
    let whole : list_all is_plain_row (sections s []) ≡ true =
    and_from _ _ (count_row_plain (codes "slice") s.step refl facts.step) (and_from _ _ (count_row_plain (codes "faces") (length s.faces) refl facts.many_faces) of_faces) in
    ap (list_all is_plain_row) (one_by_one s) ∙ whole

-- What is spelled so is read.
pub slice_again : {F : Type 0} (bad : ℕ → F) (bytes : List ℕ) (s : Slice) → IsSliceText bytes s → slice_of_text bad bytes ≡ Ok s
unfolding slice_of_text
slice_again bad bytes s is =
    let facts = slice_facts s is.form in
    let rows : rows_of bytes ≡ sections s (([] ∷ []) ∷ []) = ap rows_of is.spelled ∙ rows_again (all_rows s) (slice_plain s facts) ∙ regrouped s (([] ∷ []) ∷ []) in
    let of_edges : List Row = map edge_words s.edges ++ last_rows in
    let from_edges : List Row = count_words (codes "edges") (length s.edges) ∷ of_edges in
    let of_faces : List Row = map face_words s.faces ++ from_edges in
    let some_edges : of_edges ≢ [] = some_rows (map edge_words s.edges) last_rows (λ e. cc) in
    let some_faces : of_faces ≢ [] = some_rows (map face_words s.faces) from_edges (λ e. cc) in
    let step = count_line_again bad (codes "slice") 1 s.step (count_words (codes "faces") (length s.faces) ∷ of_faces) (λ e. cc) facts.step in
    let many_faces = count_line_again bad (codes "faces") (next_number 1) (length s.faces) of_faces some_faces facts.many_faces in
    let faces = faces_again bad (next_number (next_number 1)) s.faces from_edges (λ e. cc) (faces_fit s.faces facts.faces facts.faces_sorted) in
    let many_edges = count_line_again bad (codes "edges") faces.0 (length s.edges) of_edges some_edges facts.many_edges in
    let edges = edges_again bad (next_number faces.0) s.edges last_rows (λ e. cc) (edges_fit s.edges facts.edges facts.edges_sorted) in
    rw (rows, step, many_faces, faces.1, many_edges, edges.1, last_again bad edges.0) refl

-- ---- what the call answers

-- what is read is spelled so
pub slice_read : (bytes : List ℕ) (r : Result Slice (Or BadText)) → GivesWhole r (slice_of_text bad_text bytes) → IfOk r (IsSliceText bytes)
slice_read bytes (Ok s) given = slice_spelled bad_text bytes s given
slice_read bytes (Err e) given = tt

-- what is spelled so is read
pub slice_found : (bytes : List ℕ) (r : Result Slice (Or BadText)) (s : Slice) → IsSliceText bytes s → GivesWhole r (slice_of_text bad_text bytes) → GivesWhole r (Ok s)
slice_found bytes r s is given = subst (λ read. GivesWhole r read) (slice_again bad_text bytes s is) given

-- the fault comes where nothing is spelled
pub slice_fault : (bytes : List ℕ) (r : Result Slice (Or BadText)) (f : BadText) (s : Slice) → r ≡ Err (Fault f) → GivesWhole r (slice_of_text bad_text bytes) → ¬ (IsSliceText bytes s)
slice_fault bytes r f s is given = λ spelled.
    let refused : slice_of_text bad_text bytes ≡ Err f = subst (λ (x : Result Slice (Or BadText)). GivesWhole x (slice_of_text bad_text bytes)) is given in
    let again = slice_again bad_text bytes s spelled in
    cc
