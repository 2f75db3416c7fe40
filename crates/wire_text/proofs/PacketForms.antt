-- Mends and records: what is read is spelled so, and what is spelled so is read.
use Rattle.std.proofs.Common.{◌≡◌, ◌≢◌, ℕ, Bool, true, eqb, ◌&&◌, nat_le, List, [], ◌∷◌, ◌++◌, length, map, Some, Ok, refl, sym, ap, subst, ◌∙◌, append_assoc, arith}
use Rattle.std.specs.Prelude.{decimal, codes}
use Rattle.std.specs.List.{list_all, flat_map}
use Rattle.std.proofs.lemmas.Bool.{and_from, and_parts, le-leb, eq-eqb, eqb-true}
use Rattle.std.proofs.lemmas.List.Folds.{list_all-append}
use Rattle.std.proofs.lemmas.Option.{option_and_then_some}
use Rattle.tgap_model.specs.declared.slice.Edge.{Edge}
use Rattle.tgap_model.specs.declared.record.Put.{Put}
use Rattle.tgap_model.specs.declared.record.Piece.{Piece}
use Rattle.tgap_model.specs.declared.record.Mend.{Mend}
use Rattle.tgap_model.specs.declared.record.StepRecord.{StepRecord}
use Rattle.line_forms.specs.Words.{Row, after_word, count_at, after_count}
use Rattle.line_forms.specs.Lines.{Lines, next_number, read_line}
use Rattle.wire_text.specs.SliceTexts.{edge_words, put_words, piece_words, mend_rows, step_words, record_rows}
use Rattle.slice_forms.specs.SliceForms.{is_number, is_edge_row, is_put_row, is_piece_row, is_mend_row, is_record_row}
use Rattle.wire_text.specs.SliceReading.{read_put, read_piece, read_mend_head, read_step_head, edge_at, puts_at, pieces_at, ended_at, mend_at, mends_at, record_at}
use Rattle.plain_io.proofs.Rows.{is_plain_row}
use Rattle.plain_io.proofs.Steps.{bound, read_line_is, read_line_again, lines_from, some_rows, after_word_is, after_count_is, ended_is, after_count_again}
use Rattle.wire_text.specs.Reading.{bad_text}
use Rattle.wire_text.proofs.Counts.{number_small, number_plain, count_at_is, count_at_again, after_count_small}
use Rattle.wire_text.proofs.Each.{IsReader}
use Rattle.wire_text.proofs.AllForms.{IsForm, always, any_form, AreAll, all_are, all_again, all_plain, lines_are, lines_again, lines_plain}
use Rattle.wire_text.proofs.LineForms.{fits_put, put_reader, fits_piece, piece_reader, fits_edge, edge_reader}

-- ---- puts, pieces and edges that come back

puts_are : {F : Type 0} (bad : ℕ → F) (n : ℕ) (lines : Lines) (x : List Put × Lines) → puts_at bad n lines ≡ Ok x → AreAll (map put_words) is_put_row n lines x
unfolding puts_at
puts_are bad n lines x e = lines_are (λ k p. k) (λ k. read_line bad read_put) fits_put put_words always is_put_row (put_reader bad) (any_form is_put_row) 0 n lines x tt e

puts_again : {F : Type 0} (bad : ℕ → F) (n : ℕ) (puts : List Put) (rest : List Row) → rest ≢ [] → list_all is_put_row puts ≡ true
    → (m : ℕ) × (puts_at bad (length puts) (lines_from n (map put_words puts ++ rest)) ≡ Ok (puts, lines_from m rest))
unfolding puts_at
puts_again bad n puts rest some h = lines_again (λ k p. k) (λ k. read_line bad read_put) fits_put put_words always is_put_row (put_reader bad) (any_form is_put_row) 0 n puts rest tt some h

puts_plain : (puts : List Put) → list_all is_put_row puts ≡ true → list_all is_plain_row (map put_words puts) ≡ true
puts_plain puts h = lines_plain (λ k p. k) (λ k. read_line bad_text read_put) fits_put put_words always is_put_row (put_reader bad_text) (any_form is_put_row) 0 puts tt h

pieces_are : {F : Type 0} (bad : ℕ → F) (n : ℕ) (lines : Lines) (x : List Piece × Lines) → pieces_at bad n lines ≡ Ok x → AreAll (map piece_words) is_piece_row n lines x
unfolding pieces_at
pieces_are bad n lines x e = lines_are (λ k p. k) (λ k. read_line bad read_piece) fits_piece piece_words always is_piece_row (piece_reader bad) (any_form is_piece_row) 0 n lines x tt e

pieces_again : {F : Type 0} (bad : ℕ → F) (n : ℕ) (pieces : List Piece) (rest : List Row) → rest ≢ [] → list_all is_piece_row pieces ≡ true
    → (m : ℕ) × (pieces_at bad (length pieces) (lines_from n (map piece_words pieces ++ rest)) ≡ Ok (pieces, lines_from m rest))
unfolding pieces_at
pieces_again bad n pieces rest some h = lines_again (λ k p. k) (λ k. read_line bad read_piece) fits_piece piece_words always is_piece_row (piece_reader bad) (any_form is_piece_row) 0 n pieces rest tt some h

pieces_plain : (pieces : List Piece) → list_all is_piece_row pieces ≡ true → list_all is_plain_row (map piece_words pieces) ≡ true
pieces_plain pieces h = lines_plain (λ k p. k) (λ k. read_line bad_text read_piece) fits_piece piece_words always is_piece_row (piece_reader bad_text) (any_form is_piece_row) 0 pieces tt h

-- the number is 0
abbrev is_zero : ℕ → Type 0
is_zero k = k ≡ 0

-- an edge of any key is one with a key from 0 on
ended_form : IsForm (λ k (e : Edge). k) fits_edge is_zero is_edge_row
ended_form = record {
  passes = λ k e none h. (none, (and_parts (nat_le k e.key) (is_edge_row e) h).1);
  fit = λ k e none h. (none, and_from _ _ (le-leb k e.key (omega (arith, none))) h);
}

ended_are : {F : Type 0} (bad : ℕ → F) (n : ℕ) (lines : Lines) (x : List Edge × Lines) → ended_at bad n lines ≡ Ok x → AreAll (map edge_words) is_edge_row n lines x
unfolding ended_at
ended_are bad n lines x e = lines_are (λ k d. k) (edge_at bad) fits_edge edge_words is_zero is_edge_row (edge_reader bad) ended_form 0 n lines x refl e

ended_again : {F : Type 0} (bad : ℕ → F) (n : ℕ) (edges : List Edge) (rest : List Row) → rest ≢ [] → list_all is_edge_row edges ≡ true
    → (m : ℕ) × (ended_at bad (length edges) (lines_from n (map edge_words edges ++ rest)) ≡ Ok (edges, lines_from m rest))
unfolding ended_at
ended_again bad n edges rest some h = lines_again (λ k d. k) (edge_at bad) fits_edge edge_words is_zero is_edge_row (edge_reader bad) ended_form 0 n edges rest refl some h

ended_plain : (edges : List Edge) → list_all is_edge_row edges ≡ true → list_all is_plain_row (map edge_words edges) ≡ true
ended_plain edges h = lines_plain (λ k d. k) (edge_at bad_text) fits_edge edge_words is_zero is_edge_row (edge_reader bad_text) ended_form 0 edges refl h

-- ---- mends

-- the line of a mend
abbrev mend_words : ℕ → ℕ → ℕ → Row
mend_words key puts pieces = codes "mend" ∷ decimal key ∷ decimal puts ∷ decimal pieces ∷ []

-- that is read
record IsMendHead (row : Row) (x : ℕ × ℕ × ℕ) : Type 0 where
  spelled : row ≡ mend_words x.0 x.1 x.2
  key : is_number x.0 ≡ true
  puts : is_number x.1 ≡ true
  pieces : is_number x.2 ≡ true

mend_head_is : (row : Row) (x : ℕ × ℕ × ℕ) → read_mend_head row ≡ Some x → IsMendHead row x
unfolding read_mend_head
mend_head_is row x e =
    option_and_then_some _ (after_word (codes "mend") row) x e (λ start e0 r0.
    option_and_then_some _ (count_at start) x r0 (λ key e1 r1.
    option_and_then_some _ (count_at key.1) x r1 (λ puts e2 r2.
    option_and_then_some _ (count_at puts.1) x r2 (λ pieces e3 r3.
    let f0 = after_word_is (codes "mend") row start e0 in
    let g1 = count_at_is start key e1 in
    let g2 = count_at_is key.1 puts e2 in
    let g3 = count_at_is puts.1 pieces e3 in
    let f1 = g1.0 in
    let f2 = g2.0 in
    let f3 = g3.0 in
    let done = ended_is (key.0, puts.0, pieces.0) x pieces.1 r3 in
    let last = done.0 in
    let spelled : row ≡ mend_words key.0 puts.0 pieces.0 = cc in
    subst (λ (y : ℕ × ℕ × ℕ). IsMendHead row y) done.1 (record { spelled = spelled; key = g1.1; puts = g2.1; pieces = g3.1 })))))

mend_head_again : (key puts pieces : ℕ) → is_number key ≡ true → is_number puts ≡ true → is_number pieces ≡ true → read_mend_head (mend_words key puts pieces) ≡ Some (key, puts, pieces)
unfolding read_mend_head
mend_head_again key puts pieces h0 h1 h2 =
    rw (count_at_again key (decimal puts ∷ decimal pieces ∷ []) h0, count_at_again puts (decimal pieces ∷ []) h1, count_at_again pieces [] h2) refl

-- a mend, whatever number it is to have
abbrev pub fits_mend : ℕ → Mend → Bool
fits_mend k m = is_mend_row m

-- what a mend passes
record MendFacts (m : Mend) : Type 0 where
  key : is_number m.key ≡ true
  many_puts : is_number (length m.puts) ≡ true
  many_pieces : is_number (length m.pieces) ≡ true
  puts : list_all is_put_row m.puts ≡ true
  pieces : list_all is_piece_row m.pieces ≡ true

mend_facts : (m : Mend) → is_mend_row m ≡ true → MendFacts m
mend_facts m h =
    let p4 = and_parts (is_number m.key && is_number (length m.puts) && is_number (length m.pieces) && list_all is_put_row m.puts) (list_all is_piece_row m.pieces) h in
    let p3 = and_parts (is_number m.key && is_number (length m.puts) && is_number (length m.pieces)) (list_all is_put_row m.puts) p4.0 in
    let p2 = and_parts (is_number m.key && is_number (length m.puts)) (is_number (length m.pieces)) p3.0 in
    let p1 = and_parts (is_number m.key) (is_number (length m.puts)) p2.0 in
    record { key = p1.0; many_puts = p1.1; many_pieces = p2.1; puts = p3.1; pieces = p4.1 }

mend_is : {F : Type 0} (bad : ℕ → F) (k : ℕ) (lines : Lines) (x : Mend × Lines) → mend_at bad lines ≡ Ok x → (lines.rows ≡ mend_rows x.0 ++ x.1.rows) × (is_mend_row x.0 ≡ true)
unfolding mend_at
mend_is bad k lines x e =
    bound _ (read_line bad read_mend_head lines) x e (λ head e0 r0.
    bound _ (puts_at bad head.0.1 head.1) x r0 (λ puts e1 r1.
    bound _ (pieces_at bad head.0.2 puts.1) x r1 (λ pieces e2 r2.
    let row = read_line_is bad read_mend_head lines head e0 in
    let one = mend_head_is row.0 head.0 row.2 in
    let g1 = puts_are bad head.0.1 head.1 puts e1 in
    let g2 = pieces_are bad head.0.2 puts.1 pieces e2 in
    let f0 = row.1 in
    let f1 = one.spelled in
    let f2 = g1.spelled in
    let f3 = g2.spelled in
    let n0 = g1.count in
    let n1 = g2.count in
    let m : Mend = record { key = head.0.0; puts = puts.0; pieces = pieces.0 } in
    let made : (m, pieces.1) ≡ x = cc in
    let words : Row = mend_words head.0.0 (length puts.0) (length pieces.0) in
    let cut : lines.rows ≡ words ∷ (map put_words puts.0 ++ (map piece_words pieces.0 ++ pieces.1.rows)) = cc in
    let spelled : lines.rows ≡ mend_rows m ++ pieces.1.rows =
    cut ∙ ap (λ (rows : List Row). words ∷ rows) (sym (append_assoc (map put_words puts.0) (map piece_words pieces.0) pieces.1.rows)) in
    let many_puts : is_number (length puts.0) ≡ true = ap is_number n0 ∙ one.puts in
    let many_pieces : is_number (length pieces.0) ≡ true = ap is_number n1 ∙ one.pieces in
    let fits : is_mend_row m ≡ true = rw (one.key, many_puts, many_pieces, g1.form, g2.form) refl in
    subst (λ (y : Mend × Lines). (lines.rows ≡ mend_rows y.0 ++ y.1.rows) × (is_mend_row y.0 ≡ true)) made (spelled, fits))))

mend_again : {F : Type 0} (bad : ℕ → F) (n : ℕ) (m : Mend) (rest : List Row) → rest ≢ [] → is_mend_row m ≡ true
    → (after : ℕ) × (mend_at bad (lines_from n (mend_rows m ++ rest)) ≡ Ok (m, lines_from after rest))
unfolding mend_at
mend_again bad n m rest some h =
    let facts = mend_facts m h in
    let of_pieces : List Row = map piece_words m.pieces ++ rest in
    let of_puts : List Row = map put_words m.puts ++ of_pieces in
    let some_pieces : of_pieces ≢ [] = some_rows (map piece_words m.pieces) rest some in
    let some_puts : of_puts ≢ [] = some_rows (map put_words m.puts) of_pieces some_pieces in
    let words : Row = mend_words m.key (length m.puts) (length m.pieces) in
    let head = read_line_again bad read_mend_head n words of_puts (m.key, length m.puts, length m.pieces) some_puts (mend_head_again m.key (length m.puts) (length m.pieces) facts.key facts.many_puts facts.many_pieces) in
    let puts = puts_again bad (next_number n) m.puts of_pieces some_pieces facts.puts in
    let pieces = pieces_again bad puts.0 m.pieces rest some facts.pieces in
    (pieces.0, rw (append_assoc (map put_words m.puts) (map piece_words m.pieces) rest, head, puts.1, pieces.1) refl)

mend_plain : (m : Mend) → is_mend_row m ≡ true → list_all is_plain_row (mend_rows m) ≡ true
mend_plain m h =
    let facts = mend_facts m h in
    let head : is_plain_row (mend_words m.key (length m.puts) (length m.pieces)) ≡ true =
    rw (number_plain m.key facts.key, number_plain (length m.puts) facts.many_puts, number_plain (length m.pieces) facts.many_pieces) refl in
    and_from _ _ head (list_all-append is_plain_row (map put_words m.puts) (map piece_words m.pieces) ∙ and_from _ _ (puts_plain m.puts facts.puts) (pieces_plain m.pieces facts.pieces))

mend_reader : {F : Type 0} (bad : ℕ → F) → IsReader (λ k. mend_at bad) fits_mend mend_rows
mend_reader bad = record {
  spelled = λ k lines x e. mend_is bad k lines x e;
  again = λ k n m rest some h. mend_again bad n m rest some h;
  plain = λ k m h. mend_plain m h;
}

mends_are : {F : Type 0} (bad : ℕ → F) (n : ℕ) (lines : Lines) (x : List Mend × Lines) → mends_at bad n lines ≡ Ok x → AreAll (flat_map mend_rows) is_mend_row n lines x
unfolding mends_at
mends_are bad n lines x e = all_are (λ k m. k) (λ k. mend_at bad) fits_mend mend_rows always is_mend_row (mend_reader bad) (any_form is_mend_row) 0 n lines x tt e

mends_again : {F : Type 0} (bad : ℕ → F) (n : ℕ) (mends : List Mend) (rest : List Row) → rest ≢ [] → list_all is_mend_row mends ≡ true
    → (m : ℕ) × (mends_at bad (length mends) (lines_from n (flat_map mend_rows mends ++ rest)) ≡ Ok (mends, lines_from m rest))
unfolding mends_at
mends_again bad n mends rest some h = all_again (λ k m. k) (λ k. mend_at bad) fits_mend mend_rows always is_mend_row (mend_reader bad) (any_form is_mend_row) 0 n mends rest tt some h

mends_plain : (mends : List Mend) → list_all is_mend_row mends ≡ true → list_all is_plain_row (flat_map mend_rows mends) ≡ true
mends_plain mends h = all_plain (λ k m. k) (λ k. mend_at bad_text) fits_mend mend_rows always is_mend_row (mend_reader bad_text) (any_form is_mend_row) 0 mends tt h

-- ---- records

-- the numbers of the line of a step
abbrev Numbers : Type 0
Numbers = ℕ × ℕ × ℕ × ℕ × ℕ × ℕ × ℕ

-- the line of step j
abbrev head_words : ℕ → Numbers → Row
head_words j x =
    codes "step" ∷ decimal j ∷ decimal x.0 ∷ decimal x.1 ∷ decimal x.2 ∷ decimal x.3 ∷ decimal x.4 ∷ decimal x.5 ∷ decimal x.6 ∷ []

-- that is read
record IsStepHead (j : ℕ) (row : Row) (x : Numbers) : Type 0 where
  spelled : row ≡ head_words j x
  step : is_number j ≡ true
  loser : is_number x.0 ≡ true
  loser_class : is_number x.1 ≡ true
  winner : is_number x.2 ≡ true
  winner_class : is_number x.3 ≡ true
  made : is_number x.4 ≡ true
  mends : is_number x.5 ≡ true
  ended : is_number x.6 ≡ true

step_head_is : (j : ℕ) (row : Row) (x : Numbers) → read_step_head j row ≡ Some x → IsStepHead j row x
unfolding read_step_head
step_head_is j row x e =
    option_and_then_some _ (after_word (codes "step") row) x e (λ start e0 r0.
    option_and_then_some _ (after_count j start) x r0 (λ named e1 r1.
    option_and_then_some _ (count_at named) x r1 (λ loser e2 r2.
    option_and_then_some _ (count_at loser.1) x r2 (λ loser_class e3 r3.
    option_and_then_some _ (count_at loser_class.1) x r3 (λ winner e4 r4.
    option_and_then_some _ (count_at winner.1) x r4 (λ winner_class e5 r5.
    option_and_then_some _ (count_at winner_class.1) x r5 (λ made e6 r6.
    option_and_then_some _ (count_at made.1) x r6 (λ mends e7 r7.
    option_and_then_some _ (count_at mends.1) x r7 (λ edges e8 r8.
    let f0 = after_word_is (codes "step") row start e0 in
    let f1 = after_count_is j start named e1 in
    let g2 = count_at_is named loser e2 in
    let g3 = count_at_is loser.1 loser_class e3 in
    let g4 = count_at_is loser_class.1 winner e4 in
    let g5 = count_at_is winner.1 winner_class e5 in
    let g6 = count_at_is winner_class.1 made e6 in
    let g7 = count_at_is made.1 mends e7 in
    let g8 = count_at_is mends.1 edges e8 in
    let f2 = g2.0 in
    let f3 = g3.0 in
    let f4 = g4.0 in
    let f5 = g5.0 in
    let f6 = g6.0 in
    let f7 = g7.0 in
    let f8 = g8.0 in
    let all : Numbers = (loser.0, loser_class.0, winner.0, winner_class.0, made.0, mends.0, edges.0) in
    let done = ended_is all x edges.1 r8 in
    let last = done.0 in
    let spelled : row ≡ head_words j all = cc in
    subst (λ (y : Numbers). IsStepHead j row y) done.1
    (record { spelled = spelled; step = after_count_small j start named e1; loser = g2.1; loser_class = g3.1; winner = g4.1; winner_class = g5.1; made = g6.1; mends = g7.1; ended = g8.1 }))))))))))

-- what a record passes
record RecordFacts (r : StepRecord) : Type 0 where
  step : is_number r.step ≡ true
  loser : is_number r.loser ≡ true
  loser_class : is_number r.loser_class ≡ true
  winner : is_number r.winner ≡ true
  winner_class : is_number r.winner_class ≡ true
  made : is_number r.made ≡ true
  many_mends : is_number (length r.mends) ≡ true
  many_edges : is_number (length r.ended) ≡ true
  mends : list_all is_mend_row r.mends ≡ true
  ended : list_all is_edge_row r.ended ≡ true

record_facts : (r : StepRecord) → is_record_row r ≡ true → RecordFacts r
record_facts r h =
    let t1 = is_number r.step && is_number r.loser in
    let t2 = t1 && is_number r.loser_class in
    let t3 = t2 && is_number r.winner in
    let t4 = t3 && is_number r.winner_class in
    let t5 = t4 && is_number r.made in
    let t6 = t5 && is_number (length r.mends) in
    let t7 = t6 && is_number (length r.ended) in
    let t8 = t7 && list_all is_mend_row r.mends in
    let p9 = and_parts t8 (list_all is_edge_row r.ended) h in
    let p8 = and_parts t7 (list_all is_mend_row r.mends) p9.0 in
    let p7 = and_parts t6 (is_number (length r.ended)) p8.0 in
    let p6 = and_parts t5 (is_number (length r.mends)) p7.0 in
    let p5 = and_parts t4 (is_number r.made) p6.0 in
    let p4 = and_parts t3 (is_number r.winner_class) p5.0 in
    let p3 = and_parts t2 (is_number r.winner) p4.0 in
    let p2 = and_parts t1 (is_number r.loser_class) p3.0 in
    let p1 = and_parts (is_number r.step) (is_number r.loser) p2.0 in
    record {
      step = p1.0;
      loser = p1.1;
      loser_class = p2.1;
      winner = p3.1;
      winner_class = p4.1;
      made = p5.1;
      many_mends = p6.1;
      many_edges = p7.1;
      mends = p8.1;
      ended = p9.1;
    }

-- the numbers of a record, after that of its step
abbrev numbers_of : StepRecord → Numbers
numbers_of r = (r.loser, r.loser_class, r.winner, r.winner_class, r.made, length r.mends, length r.ended)

step_head_again : (r : StepRecord) → RecordFacts r → read_step_head r.step (step_words r) ≡ Some (numbers_of r)
unfolding read_step_head
step_head_again r facts =
    let w6 : Row = decimal (length r.ended) ∷ [] in
    let w5 : Row = decimal (length r.mends) ∷ w6 in
    let w4 : Row = decimal r.made ∷ w5 in
    let w3 : Row = decimal r.winner_class ∷ w4 in
    let w2 : Row = decimal r.winner ∷ w3 in
    let w1 : Row = decimal r.loser_class ∷ w2 in
    rw (
      after_count_again r.step (decimal r.loser ∷ w1) (omega (arith, number_small r.step facts.step)),
      count_at_again r.loser w1 facts.loser,
      count_at_again r.loser_class w2 facts.loser_class,
      count_at_again r.winner w3 facts.winner,
      count_at_again r.winner_class w4 facts.winner_class,
      count_at_again r.made w5 facts.made,
      count_at_again (length r.mends) w6 facts.many_mends,
      count_at_again (length r.ended) [] facts.many_edges,
    ) refl

-- the record of step j
abbrev pub fits_record : ℕ → StepRecord → Bool
fits_record j r = eqb r.step j && is_record_row r

record_is : {F : Type 0} (bad : ℕ → F) (j : ℕ) (lines : Lines) (x : StepRecord × Lines) → record_at bad j lines ≡ Ok x
    → (lines.rows ≡ record_rows x.0 ++ x.1.rows) × (fits_record j x.0 ≡ true)
unfolding record_at
record_is bad j lines x e =
    bound _ (read_line bad (read_step_head j) lines) x e (λ head e0 r0.
    bound _ (mends_at bad head.0.5 head.1) x r0 (λ mends e1 r1.
    bound _ (ended_at bad head.0.6 mends.1) x r1 (λ edges e2 r2.
    let row = read_line_is bad (read_step_head j) lines head e0 in
    let one = step_head_is j row.0 head.0 row.2 in
    let g1 = mends_are bad head.0.5 head.1 mends e1 in
    let g2 = ended_are bad head.0.6 mends.1 edges e2 in
    let f0 = row.1 in
    let f1 = one.spelled in
    let f2 = g1.spelled in
    let f3 = g2.spelled in
    let n0 = g1.count in
    let n1 = g2.count in
    let r : StepRecord = record {
      step = j;
      loser = head.0.0;
      loser_class = head.0.1;
      winner = head.0.2;
      winner_class = head.0.3;
      made = head.0.4;
      mends = mends.0;
      ended = edges.0;
    } in
    let made : (r, edges.1) ≡ x = cc in
    let cut : lines.rows ≡ step_words r ∷ (flat_map mend_rows mends.0 ++ (map edge_words edges.0 ++ edges.1.rows)) = cc in
    let spelled : lines.rows ≡ record_rows r ++ edges.1.rows =
    cut ∙ ap (λ (rows : List Row). step_words r ∷ rows) (sym (append_assoc (flat_map mend_rows mends.0) (map edge_words edges.0) edges.1.rows)) in
    let many_mends : is_number (length mends.0) ≡ true = ap is_number n0 ∙ one.mends in
    let many_edges : is_number (length edges.0) ≡ true = ap is_number n1 ∙ one.ended in
    let fits : fits_record j r ≡ true =
    rw (eq-eqb j j refl, one.step, one.loser, one.loser_class, one.winner, one.winner_class, one.made, many_mends, many_edges, g1.form, g2.form) refl in
    subst (λ (y : StepRecord × Lines). (lines.rows ≡ record_rows y.0 ++ y.1.rows) × (fits_record j y.0 ≡ true)) made (spelled, fits))))

record_again : {F : Type 0} (bad : ℕ → F) (n : ℕ) (r : StepRecord) (rest : List Row) → rest ≢ [] → is_record_row r ≡ true
    → (after : ℕ) × (record_at bad r.step (lines_from n (record_rows r ++ rest)) ≡ Ok (r, lines_from after rest))
unfolding record_at
record_again bad n r rest some h =
    let facts = record_facts r h in
    let of_edges : List Row = map edge_words r.ended ++ rest in
    let of_mends : List Row = flat_map mend_rows r.mends ++ of_edges in
    let some_edges : of_edges ≢ [] = some_rows (map edge_words r.ended) rest some in
    let some_mends : of_mends ≢ [] = some_rows (flat_map mend_rows r.mends) of_edges some_edges in
    let head = read_line_again bad (read_step_head r.step) n (step_words r) of_mends (numbers_of r) some_mends (step_head_again r facts) in
    let mends = mends_again bad (next_number n) r.mends of_edges some_edges facts.mends in
    let edges = ended_again bad mends.0 r.ended rest some facts.ended in
    (edges.0, rw (append_assoc (flat_map mend_rows r.mends) (map edge_words r.ended) rest, head, mends.1, edges.1) refl)

record_plain : (r : StepRecord) → is_record_row r ≡ true → list_all is_plain_row (record_rows r) ≡ true
record_plain r h =
    let facts = record_facts r h in
    let head : is_plain_row (step_words r) ≡ true = rw (
      number_plain r.step facts.step,
      number_plain r.loser facts.loser,
      number_plain r.loser_class facts.loser_class,
      number_plain r.winner facts.winner,
      number_plain r.winner_class facts.winner_class,
      number_plain r.made facts.made,
      number_plain (length r.mends) facts.many_mends,
      number_plain (length r.ended) facts.many_edges,
    ) refl in
    and_from _ _ head (list_all-append is_plain_row (flat_map mend_rows r.mends) (map edge_words r.ended) ∙ and_from _ _ (mends_plain r.mends facts.mends) (ended_plain r.ended facts.ended))

-- the spelling of a record is read again, by the number that it is to have
again_at : {F : Type 0} (bad : ℕ → F) (j n : ℕ) (r : StepRecord) (rest : List Row) → rest ≢ [] → fits_record j r ≡ true
    → (after : ℕ) × (record_at bad j (lines_from n (record_rows r ++ rest)) ≡ Ok (r, lines_from after rest))
again_at bad j n r rest some h =
    let parts = and_parts (eqb r.step j) (is_record_row r) h in
    let read = record_again bad n r rest some parts.1 in
    (read.0, ap (λ k. record_at bad k (lines_from n (record_rows r ++ rest))) (sym (eqb-true r.step j parts.0)) ∙ read.1)

pub record_reader : {F : Type 0} (bad : ℕ → F) → IsReader (record_at bad) fits_record record_rows
record_reader bad = record {
  spelled = λ j lines x e. record_is bad j lines x e;
  again = λ j n r rest some h. again_at bad j n r rest some h;
  plain = λ j r h. record_plain r (and_parts (eqb r.step j) (is_record_row r) h).1;
}
