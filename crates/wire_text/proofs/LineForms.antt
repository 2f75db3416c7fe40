-- The lines of slices and packets, each by itself: what is read is spelled so, and what is spelled so is read.
use Rattle.std.proofs.Common.{◌≡◌, ◌≢◌, ℕ, zero, suc, ◌-◌, ◌^◌, ◌≤◌, Bool, true, false, cond, eqb, ◌&&◌, nat_le, List, [], ◌∷◌, length, Some, Ok, refl, ap, subst, ◌∙◌, arith}
use Rattle.std.specs.Prelude.{decimal, codes}
use Rattle.std.specs.Fmt.{signed_decimal}
use Rattle.std.specs.List.{list_all, flat_map}
use Rattle.std.specs.Option.{ok_or}
use Rattle.std.proofs.lemmas.Bool.{and_from, and_parts, le-leb, leb-true}
use Rattle.std.proofs.lemmas.Option.{option_and_then_some}
use Rattle.tgap_model.specs.declared.geometry.Point.{Point}
use Rattle.tgap_model.specs.declared.slice.Edge.{Edge}
use Rattle.tgap_model.specs.declared.slice.FaceRow.{FaceRow}
use Rattle.tgap_model.specs.declared.record.Put.{Put}
use Rattle.tgap_model.specs.declared.record.Piece.{Piece}
use Rattle.tgap_model.specs.declared.limits.TheConstants.{MAX_COORDINATE}
use Rattle.tgap_model.specs.Base.{in_limits, no_repeat}
use Rattle.line_forms.specs.Words.{Row, after_word, natural_at, count_at}
use Rattle.line_forms.specs.Lines.{Lines, next_number, line_at, read_line}
use Rattle.line_forms.specs.ListingLines.{coordinate_at, read_points}
use Rattle.map_forms.specs.Listing.{point_words}
use Rattle.wire_text.specs.SliceTexts.{edge_words, face_words, put_words, piece_words}
use Rattle.slice_forms.specs.SliceForms.{is_number, is_edge_row, is_put_row, is_piece_row}
use Rattle.wire_text.specs.SliceReading.{read_face_row, edge_head_at, edge_at, read_put, read_piece}
use Rattle.plain_io.proofs.Rows.{is_plain_row}
use Rattle.plain_io.proofs.Steps.{bound, ok_or_is, line_at_is, line_at_again, lines_from, after_word_is, number_at_is, natural_at_is, ended_is, natural_at_again}
use Rattle.wire_text.proofs.Counts.{number_test, number_small, number_plain, number_from_is, number_from_again, count_at_is, count_at_again}
use Rattle.wire_text.proofs.Points.{coordinate_at_again, coordinate_plain, coordinates, read_points_is, read_points_again, points_plain}
use Rattle.wire_text.proofs.Each.{IsReader, line_reader}

-- ---- faces

-- a face with a number from k on
abbrev pub fits_face : ℕ → FaceRow → Bool
fits_face k f = nat_le k f.face && is_number f.face && is_number f.class

-- what such a face passes
pub record FaceFacts (k : ℕ) (f : FaceRow) : Type 0 where
  pub from : k ≤ f.face
  pub face : is_number f.face ≡ true
  pub class : is_number f.class ≡ true

pub face_facts : (k : ℕ) (f : FaceRow) → fits_face k f ≡ true → FaceFacts k f
face_facts k f h =
    let last = and_parts (nat_le k f.face && is_number f.face) (is_number f.class) h in
    let first = and_parts (nat_le k f.face) (is_number f.face) last.0 in
    record { from = leb-true k f.face first.0; face = first.1; class = last.1 }

face_is : (k : ℕ) (row : Row) (f : FaceRow) → read_face_row k row ≡ Some f → (row ≡ face_words f) × (fits_face k f ≡ true)
unfolding read_face_row
face_is k row f e =
    option_and_then_some _ (after_word (codes "face") row) f e (λ start e0 r0.
    option_and_then_some _ (natural_at k (2 ^ 32 - 1) start) f r0 (λ face e1 r1.
    option_and_then_some _ (count_at face.1) f r1 (λ class e2 r2.
    let f0 = after_word_is (codes "face") row start e0 in
    let g1 = number_from_is k start face e1 in
    let g2 = count_at_is face.1 class e2 in
    let f1 = g1.0 in
    let f2 = g2.0 in
    let made : FaceRow = record { face = face.0; class = class.0 } in
    let done = ended_is made f class.1 r2 in
    let last = done.0 in
    let spelled : row ≡ face_words made = cc in
    let fits : fits_face k made ≡ true = rw (le-leb k face.0 g1.1, g1.2, g2.1) refl in
    subst (λ (g : FaceRow). (row ≡ face_words g) × (fits_face k g ≡ true)) done.1 (spelled, fits))))

face_again : (k : ℕ) (f : FaceRow) → fits_face k f ≡ true → read_face_row k (face_words f) ≡ Some f
unfolding read_face_row
face_again k f h =
    let facts = face_facts k f h in
    rw (number_from_again k f.face (decimal f.class ∷ []) facts.from facts.face, count_at_again f.class [] facts.class) refl

face_plain : (k : ℕ) (f : FaceRow) → fits_face k f ≡ true → is_plain_row (face_words f) ≡ true
face_plain k f h =
    let facts = face_facts k f h in
    rw (number_plain f.face facts.face, number_plain f.class facts.class) refl

pub face_reader : {F : Type 0} (bad : ℕ → F) → IsReader (λ k. read_line bad (read_face_row k)) fits_face (λ f. face_words f ∷ [])
face_reader bad = line_reader bad read_face_row fits_face face_words face_is face_again face_plain

-- the number of a face that is read
pub face_small : {F : Type 0} (bad : ℕ → F) (k : ℕ) (lines : Lines) (x : FaceRow × Lines) → read_line bad (read_face_row k) lines ≡ Ok x → x.0.face ≤ 2 ^ 32 - 1
face_small bad k lines x e = number_small x.0.face (face_facts k x.0 ((face_reader bad).spelled k lines x e).1).face

-- ---- edges

-- an edge with a key from k on
abbrev pub fits_edge : ℕ → Edge → Bool
fits_edge k e = nat_le k e.key && is_edge_row e

-- what an edge passes
pub record EdgeFacts (e : Edge) : Type 0 where
  pub key : is_number e.key ≡ true
  pub left : is_number e.left ≡ true
  pub right : is_number e.right ≡ true
  pub count : is_number (length e.points) ≡ true
  pub two : 2 ≤ length e.points
  pub inside : list_all in_limits e.points ≡ true
  pub apart : no_repeat e.points ≡ true

pub edge_facts : (e : Edge) → is_edge_row e ≡ true → EdgeFacts e
edge_facts e h =
    let p6 = and_parts (is_number e.key && is_number e.left && is_number e.right && is_number (length e.points) && nat_le 2 (length e.points) && list_all in_limits e.points) (no_repeat e.points) h in
    let p5 = and_parts (is_number e.key && is_number e.left && is_number e.right && is_number (length e.points) && nat_le 2 (length e.points)) (list_all in_limits e.points) p6.0 in
    let p4 = and_parts (is_number e.key && is_number e.left && is_number e.right && is_number (length e.points)) (nat_le 2 (length e.points)) p5.0 in
    let p3 = and_parts (is_number e.key && is_number e.left && is_number e.right) (is_number (length e.points)) p4.0 in
    let p2 = and_parts (is_number e.key && is_number e.left) (is_number e.right) p3.0 in
    let p1 = and_parts (is_number e.key) (is_number e.left) p2.0 in
    record { key = p1.0; left = p1.1; right = p2.1; count = p3.1; two = leb-true 2 (length e.points) p4.1; inside = p5.1; apart = p6.1 }

-- the head of an edge is spelled so
record IsEdgeHead (k : ℕ) (row : Row) (x : (ℕ × ℕ × ℕ × ℕ) × Row) : Type 0 where
  spelled : row ≡ codes "edge" ∷ decimal x.0.0 ∷ decimal x.0.1 ∷ decimal x.0.2 ∷ decimal x.0.3 ∷ x.1
  from : k ≤ x.0.0
  key : is_number x.0.0 ≡ true
  left : is_number x.0.1 ≡ true
  right : is_number x.0.2 ≡ true
  two : 2 ≤ x.0.3
  count : is_number x.0.3 ≡ true

edge_head_is : (k : ℕ) (row : Row) (x : (ℕ × ℕ × ℕ × ℕ) × Row) → edge_head_at k row ≡ Some x → IsEdgeHead k row x
unfolding edge_head_at
edge_head_is k row x e =
    option_and_then_some _ (after_word (codes "edge") row) x e (λ start e0 r0.
    option_and_then_some _ (natural_at k (2 ^ 32 - 1) start) x r0 (λ key e1 r1.
    option_and_then_some _ (count_at key.1) x r1 (λ left e2 r2.
    option_and_then_some _ (count_at left.1) x r2 (λ right e3 r3.
    option_and_then_some _ (natural_at 2 (2 ^ 32 - 1) right.1) x r3 (λ count e4 r4.
    let f0 = after_word_is (codes "edge") row start e0 in
    let g1 = number_from_is k start key e1 in
    let g2 = count_at_is key.1 left e2 in
    let g3 = count_at_is left.1 right e3 in
    let g4 = number_from_is 2 right.1 count e4 in
    let f1 = g1.0 in
    let f2 = g2.0 in
    let f3 = g3.0 in
    let f4 = g4.0 in
    let spelled : row ≡ codes "edge" ∷ decimal key.0 ∷ decimal left.0 ∷ decimal right.0 ∷ decimal count.0 ∷ count.1 = cc in
    let made : ((key.0, left.0, right.0, count.0), count.1) ≡ x = cc in
    subst (λ (y : (ℕ × ℕ × ℕ × ℕ) × Row). IsEdgeHead k row y) made
    (record { spelled = spelled; from = g1.1; key = g1.2; left = g2.1; right = g3.1; two = g4.1; count = g4.2 }))))))

edge_head_again : (k key left right count : ℕ) (rest : Row) → k ≤ key → is_number key ≡ true → is_number left ≡ true → is_number right ≡ true → 2 ≤ count → is_number count ≡ true
    → edge_head_at k (codes "edge" ∷ decimal key ∷ decimal left ∷ decimal right ∷ decimal count ∷ rest) ≡ Some ((key, left, right, count), rest)
unfolding edge_head_at
edge_head_again k key left right count rest from h0 h1 h2 two h3 =
    rw (
      number_from_again k key (decimal left ∷ decimal right ∷ decimal count ∷ rest) from h0,
      count_at_again left (decimal right ∷ decimal count ∷ rest) h1,
      count_at_again right (decimal count ∷ rest) h2,
      number_from_again 2 count rest two h3,
    ) refl

edge_is : {F : Type 0} (bad : ℕ → F) (k : ℕ) (lines : Lines) (x : Edge × Lines) → edge_at bad k lines ≡ Ok x → (lines.rows ≡ edge_words x.0 ∷ x.1.rows) × (fits_edge k x.0 ≡ true)
unfolding edge_at
edge_is bad k lines x e =
    bound _ (ok_or (line_at lines) (bad lines.number)) x e (λ line e0 r0.
    bound _ (ok_or (edge_head_at k line.0) (bad lines.number)) x r0 (λ head e1 r1.
    bound _ (ok_or (read_points MAX_COORDINATE head.0.3 head.1) (bad lines.number)) x r1 (λ points e2 r2.
    let f0 = line_at_is lines line (ok_or_is (line_at lines) (bad lines.number) line e0) in
    let one = edge_head_is k line.0 head (ok_or_is (edge_head_at k line.0) (bad lines.number) head e1) in
    let all = read_points_is head.0.3 head.1 points (ok_or_is (read_points MAX_COORDINATE head.0.3 head.1) (bad lines.number) points e2) in
    let f1 = one.spelled in
    let f2 = all.spelled in
    let f3 = all.count in
    let edge : Edge = record { key = head.0.0; left = head.0.1; right = head.0.2; points = points } in
    let made : (edge, line.1) ≡ x = cc in
    let spelled : lines.rows ≡ edge_words edge ∷ line.1.rows = cc in
    let two : 2 ≤ length points = omega (arith, one.two, all.count) in
    let few : is_number (length points) ≡ true = ap is_number all.count ∙ one.count in
    let fits : fits_edge k edge ≡ true = rw (le-leb k head.0.0 one.from, one.key, one.left, one.right, few, le-leb 2 (length points) two, all.inside, all.apart) refl in
    subst (λ (y : Edge × Lines). (lines.rows ≡ edge_words y.0 ∷ y.1.rows) × (fits_edge k y.0 ≡ true)) made (spelled, fits))))

edge_again : {F : Type 0} (bad : ℕ → F) (k n : ℕ) (e : Edge) (rest : List Row) → rest ≢ [] → fits_edge k e ≡ true
    → edge_at bad k (lines_from n (edge_words e ∷ rest)) ≡ Ok (e, lines_from (next_number n) rest)
unfolding edge_at
edge_again bad k n e rest some h =
    let parts = and_parts (nat_le k e.key) (is_edge_row e) h in
    let facts = edge_facts e parts.1 in
    rw (
      line_at_again n (edge_words e) rest some,
      edge_head_again k e.key e.left e.right (length e.points) (flat_map point_words e.points) (leb-true k e.key parts.0) facts.key facts.left facts.right facts.two facts.count,
      read_points_again e.points facts.inside facts.apart,
    ) refl

edge_plain : (k : ℕ) (e : Edge) → fits_edge k e ≡ true → is_plain_row (edge_words e) ≡ true
edge_plain k e h =
    let facts = edge_facts e (and_parts (nat_le k e.key) (is_edge_row e) h).1 in
    rw (number_plain e.key facts.key, number_plain e.left facts.left, number_plain e.right facts.right, number_plain (length e.points) facts.count, points_plain e.points facts.inside) refl

pub edge_reader : {F : Type 0} (bad : ℕ → F) → IsReader (edge_at bad) fits_edge (λ e. edge_words e ∷ [])
edge_reader bad = record {
  spelled = λ k lines x e. edge_is bad k lines x e;
  again = λ k n e rest some h. (next_number n, edge_again bad k n e rest some h);
  plain = λ k e h. and_from _ _ (edge_plain k e h) refl;
}

-- the key of an edge that is read
pub edge_small : {F : Type 0} (bad : ℕ → F) (k : ℕ) (lines : Lines) (x : Edge × Lines) → edge_at bad k lines ≡ Ok x → x.0.key ≤ 2 ^ 32 - 1
edge_small bad k lines x e = number_small x.0.key (edge_facts x.0 (and_parts (nat_le k x.0.key) (is_edge_row x.0) (edge_is bad k lines x e).1).1).key

-- ---- puts

-- a put, whatever number it is to have
abbrev pub fits_put : ℕ → Put → Bool
fits_put k p = is_put_row p

put_is : (k : ℕ) (row : Row) (p : Put) → read_put row ≡ Some p → (row ≡ put_words p) × (is_put_row p ≡ true)
unfolding read_put
put_is k row p e =
    option_and_then_some _ (after_word (codes "put") row) p e (λ start e0 r0.
    option_and_then_some _ (count_at start) p r0 (λ at e1 r1.
    option_and_then_some _ (coordinate_at at.1) p r1 (λ a e2 r2.
    option_and_then_some _ (coordinate_at a.1) p r2 (λ b e3 r3.
    let f0 = after_word_is (codes "put") row start e0 in
    let g1 = count_at_is start at e1 in
    let g2 = number_at_is _ _ at.1 a e2 in
    let g3 = number_at_is _ _ a.1 b e3 in
    let f1 = g1.0 in
    let f2 = g2.0 in
    let f3 = g3.0 in
    let point : Point = record { x = a.0; y = b.0 } in
    let made : Put = record { at = at.0; point = point } in
    let done = ended_is made p b.1 r3 in
    let last = done.0 in
    let spelled : row ≡ put_words made = cc in
    let fits : is_put_row made ≡ true = and_from (is_number at.0) (in_limits point) g1.1 (and_from _ _ g2.1 g3.1) in
    subst (λ (q : Put). (row ≡ put_words q) × (is_put_row q ≡ true)) done.1 (spelled, fits)))))

put_again : (k : ℕ) (p : Put) → is_put_row p ≡ true → read_put (put_words p) ≡ Some p
unfolding read_put
put_again k p h =
    let parts = and_parts (is_number p.at) (in_limits p.point) h in
    let inside = coordinates p.point parts.1 in
    rw (
      count_at_again p.at (signed_decimal p.point.x ∷ signed_decimal p.point.y ∷ []) parts.0,
      coordinate_at_again p.point.x (signed_decimal p.point.y ∷ []) inside.0,
      coordinate_at_again p.point.y [] inside.1,
    ) refl

put_plain : (k : ℕ) (p : Put) → is_put_row p ≡ true → is_plain_row (put_words p) ≡ true
put_plain k p h =
    let parts = and_parts (is_number p.at) (in_limits p.point) h in
    let inside = coordinates p.point parts.1 in
    rw (number_plain p.at parts.0, coordinate_plain p.point.x inside.0, coordinate_plain p.point.y inside.1) refl

pub put_reader : {F : Type 0} (bad : ℕ → F) → IsReader (λ k. read_line bad read_put) fits_put (λ p. put_words p ∷ [])
put_reader bad = line_reader bad (λ k. read_put) fits_put put_words put_is put_again put_plain

-- ---- pieces

-- a piece, whatever number it is to have
abbrev pub fits_piece : ℕ → Piece → Bool
fits_piece k p = is_piece_row p

-- what a piece passes
record PieceFacts (p : Piece) : Type 0 where
  key : is_number p.key ≡ true
  last : is_number p.last ≡ true
  side : is_number p.side ≡ true

piece_facts : (p : Piece) → is_piece_row p ≡ true → PieceFacts p
piece_facts p h =
    let last = and_parts (is_number p.key && is_number p.last) (is_number p.side) h in
    let first = and_parts (is_number p.key) (is_number p.last) last.0 in
    record { key = first.0; last = first.1; side = last.1 }

-- how a piece runs, as a number
abbrev turned_number : Bool → ℕ
turned_number turned = cond turned 1 0

-- 0 or 1 is the number of how a piece runs
turned_is : (n : ℕ) → n ≤ 1 → decimal n ≡ decimal (turned_number (eqb n 1))
turned_is zero high = refl
turned_is (suc zero) high = refl
turned_is (suc (suc n)) high = absurd (omega arith)

turned_low : (turned : Bool) → turned_number turned ≤ 1
turned_low true = omega arith
turned_low false = omega arith

turned_again : (turned : Bool) → eqb (turned_number turned) 1 ≡ turned
turned_again true = refl
turned_again false = refl

piece_is : (k : ℕ) (row : Row) (p : Piece) → read_piece row ≡ Some p → (row ≡ piece_words p) × (is_piece_row p ≡ true)
unfolding read_piece
piece_is k row p e =
    option_and_then_some _ (after_word (codes "piece") row) p e (λ start e0 r0.
    option_and_then_some _ (count_at start) p r0 (λ key e1 r1.
    option_and_then_some _ (count_at key.1) p r1 (λ last e2 r2.
    option_and_then_some _ (count_at last.1) p r2 (λ side e3 r3.
    option_and_then_some _ (natural_at 0 1 side.1) p r3 (λ turned e4 r4.
    let f0 = after_word_is (codes "piece") row start e0 in
    let g1 = count_at_is start key e1 in
    let g2 = count_at_is key.1 last e2 in
    let g3 = count_at_is last.1 side e3 in
    let g4 = natural_at_is 0 1 side.1 turned e4 in
    let f1 = g1.0 in
    let f2 = g2.0 in
    let f3 = g3.0 in
    let f4 = g4.0 in
    let f5 = turned_is turned.0 g4.2 in
    let made : Piece = record { key = key.0; last = last.0; side = side.0; turned = eqb turned.0 1 } in
    let done = ended_is made p turned.1 r4 in
    let f6 = done.0 in
    let spelled : row ≡ piece_words made = cc in
    let fits : is_piece_row made ≡ true = rw (g1.1, g2.1, g3.1) refl in
    subst (λ (q : Piece). (row ≡ piece_words q) × (is_piece_row q ≡ true)) done.1 (spelled, fits))))))

piece_again : (k : ℕ) (p : Piece) → is_piece_row p ≡ true → read_piece (piece_words p) ≡ Some p
unfolding read_piece
piece_again k p h =
    let facts = piece_facts p h in
    let turned = turned_number p.turned in
    rw (
      count_at_again p.key (decimal p.last ∷ decimal p.side ∷ decimal turned ∷ []) facts.key,
      count_at_again p.last (decimal p.side ∷ decimal turned ∷ []) facts.last,
      count_at_again p.side (decimal turned ∷ []) facts.side,
      natural_at_again 0 1 turned [] (omega arith) (turned_low p.turned) (omega (arith, turned_low p.turned)),
      turned_again p.turned,
    ) refl

piece_plain : (k : ℕ) (p : Piece) → is_piece_row p ≡ true → is_plain_row (piece_words p) ≡ true
piece_plain k p h =
    let facts = piece_facts p h in
    let small : is_number (turned_number p.turned) ≡ true = number_test (turned_number p.turned) (omega (arith, turned_low p.turned)) in
    rw (number_plain p.key facts.key, number_plain p.last facts.last, number_plain p.side facts.side, number_plain (turned_number p.turned) small) refl

pub piece_reader : {F : Type 0} (bad : ℕ → F) → IsReader (λ k. read_line bad read_piece) fits_piece (λ p. piece_words p ∷ [])
piece_reader bad = line_reader bad (λ k. read_piece) fits_piece piece_words piece_is piece_again piece_plain
