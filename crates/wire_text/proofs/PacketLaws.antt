-- The two laws of the text of a packet: what is read is spelled so, and what is spelled so is read.
use Rattle.std.proofs.Common.{◌≡◌, ◌≢◌, ℕ, zero, suc, ◌-◌, ◌≤◌, true, eqb, ◌&&◌, nat_le, append_assoc, List, [], ◌∷◌, ◌++◌, length, Some, Result, Ok, Err, refl, sym, ap, subst, ◌∙◌, arith}
use Rattle.std.specs.Prelude.{decimal, codes, IfOk}
use Rattle.std.specs.List.{list_all, flat_map}
use Rattle.std.proofs.lemmas.Bool.{and_from, and_parts, le-leb, leb-true}
use Rattle.std.proofs.lemmas.List.Folds.{list_all-append}
use Rattle.std.proofs.lemmas.Option.{option_and_then_some}
use Rattle.tgap_model.specs.declared.failure.Or.{Or}
use Rattle.tgap_model.specs.declared.failure.Or.TheVariants.{Fault}
use Rattle.tgap_model.specs.declared.record.StepRecord.{StepRecord}
use Rattle.tgap_model.specs.declared.record.Packet.{Packet}
use Rattle.line_forms.specs.Texts.{rows_of}
use Rattle.line_forms.specs.Words.{Row, after_word, natural_at, count_at}
use Rattle.line_forms.specs.Lines.{Lines, all_lines, next_number, read_line}
use Rattle.wire_text.specs.SliceTexts.{record_rows}
use Rattle.slice_forms.specs.SliceForms.{is_number, is_record_row, goes_down, is_packet_row}
use Rattle.wire_text.specs.SliceReading.{IsPacketText, read_packet_head, record_at, records_at, last_at, packet_of_text}
use Rattle.plain_io.specs.Taking.{GivesWhole}
use Rattle.plain_io.proofs.Rows.{is_plain_row, lines_from_rows, rows_again}
use Rattle.plain_io.proofs.Steps.{bound, read_line_is, read_line_again, lines_from, some_rows, after_word_is, natural_at_is, ended_is, natural_at_again}
use Rattle.wire_text.specs.declared.row_reading.BadText.{BadText}
use Rattle.wire_text.specs.Reading.{bad_text}
use Rattle.wire_text.proofs.Counts.{number_test, number_small, number_plain, count_at_is, count_at_again}
use Rattle.wire_text.proofs.Each.{each_fits, AreEach, each_is, each_again, each_plain}
use Rattle.wire_text.proofs.LastLine.{last_rows, last_is, last_again}
use Rattle.wire_text.proofs.PacketForms.{fits_record, record_reader}

-- ---- the first line

-- the line of a packet
abbrev packet_words : ℕ → ℕ → Row
packet_words from to = codes "packet" ∷ decimal from ∷ decimal to ∷ []

head_is : (row : Row) (x : ℕ × ℕ) → read_packet_head row ≡ Some x → (row ≡ packet_words x.0 x.1) × (is_number x.0 ≡ true) × (x.1 ≤ x.0)
unfolding read_packet_head
head_is row x e =
    option_and_then_some _ (after_word (codes "packet") row) x e (λ start e0 r0.
    option_and_then_some _ (count_at start) x r0 (λ from e1 r1.
    option_and_then_some _ (natural_at 0 from.0 from.1) x r1 (λ to e2 r2.
    let f0 = after_word_is (codes "packet") row start e0 in
    let g1 = count_at_is start from e1 in
    let g2 = natural_at_is 0 from.0 from.1 to e2 in
    let f1 = g1.0 in
    let f2 = g2.0 in
    let done = ended_is (from.0, to.0) x to.1 r2 in
    let last = done.0 in
    let spelled : row ≡ packet_words from.0 to.0 = cc in
    subst (λ (y : ℕ × ℕ). (row ≡ packet_words y.0 y.1) × (is_number y.0 ≡ true) × (y.1 ≤ y.0)) done.1 (spelled, g1.1, g2.2))))

head_again : (from to : ℕ) → is_number from ≡ true → to ≤ from → read_packet_head (packet_words from to) ≡ Some (from, to)
unfolding read_packet_head
head_again from to h down = rw (count_at_again from (decimal to ∷ []) h, natural_at_again 0 from to [] (omega arith) down (omega (arith, number_small from h))) refl

-- ---- the records

-- the number of the step before
abbrev before : ℕ → StepRecord → ℕ
before k r = k - 1

-- records that fit are those of the steps from j down
records_form : (j n : ℕ) (records : List StepRecord) → length records ≡ n → each_fits before fits_record j records ≡ true
    → (list_all is_record_row records ≡ true) × (goes_down j n records ≡ true)
records_form j zero [] count h = (refl, refl)
records_form j zero (r ∷ records) count h = absurd (omega arith)
records_form j (suc n) [] count h = absurd (omega arith)
records_form j (suc n) (r ∷ records) count h =
    let parts = and_parts (fits_record j r) (each_fits before fits_record (j - 1) records) h in
    let one = and_parts (eqb r.step j) (is_record_row r) parts.0 in
    let more = records_form (j - 1) n records (omega arith) parts.1 in
    (and_from _ _ one.1 more.0, and_from _ _ one.0 more.1)

-- and the records of these steps fit
records_fit : (j n : ℕ) (records : List StepRecord) → list_all is_record_row records ≡ true → goes_down j n records ≡ true
    → (length records ≡ n) × (each_fits before fits_record j records ≡ true)
records_fit j zero [] all down = (refl, refl)
records_fit j zero (r ∷ records) all down = absurd cc
records_fit j (suc n) [] all down = absurd cc
records_fit j (suc n) (r ∷ records) all down =
    let form = and_parts (is_record_row r) (list_all is_record_row records) all in
    let step = and_parts (eqb r.step j) (goes_down (j - 1) n records) down in
    let more = records_fit (j - 1) n records form.1 step.1 in
    (ap suc more.0, and_from _ _ (and_from _ _ step.0 form.0) more.1)

records_are : {F : Type 0} (bad : ℕ → F) (j n : ℕ) (lines : Lines) (x : List StepRecord × Lines) → records_at bad j n lines ≡ Ok x → AreEach before fits_record record_rows j n lines x
unfolding records_at
records_are bad j n lines x e = each_is before (record_at bad) fits_record record_rows (record_reader bad) j n lines x e

records_again : {F : Type 0} (bad : ℕ → F) (j n : ℕ) (records : List StepRecord) (rest : List Row) → rest ≢ [] → each_fits before fits_record j records ≡ true
    → (m : ℕ) × (records_at bad j (length records) (lines_from n (flat_map record_rows records ++ rest)) ≡ Ok (records, lines_from m rest))
unfolding records_at
records_again bad j n records rest some fit = each_again before (record_at bad) fits_record record_rows (record_reader bad) j n records rest some fit

-- ---- the whole text

-- the rows of a packet and those after them
abbrev sections : Packet → List Row → List Row
sections p rest = packet_words p.from p.to ∷ (flat_map record_rows p.steps ++ (codes "end" ∷ []) ∷ rest)

-- what a packet of the form passes
record PacketFacts (p : Packet) : Type 0 where
  from : is_number p.from ≡ true
  to : p.to ≤ p.from
  count : length p.steps ≡ p.from - p.to
  fit : each_fits before fits_record p.from p.steps ≡ true

packet_facts : (p : Packet) → is_packet_row p ≡ true → PacketFacts p
packet_facts p h =
    let p3 = and_parts (is_number p.from && nat_le p.to p.from && list_all is_record_row p.steps) (goes_down p.from (p.from - p.to) p.steps) h in
    let p2 = and_parts (is_number p.from && nat_le p.to p.from) (list_all is_record_row p.steps) p3.0 in
    let p1 = and_parts (is_number p.from) (nat_le p.to p.from) p2.0 in
    let fit = records_fit p.from (p.from - p.to) p.steps p2.1 p3.1 in
    record { from = p1.0; to = leb-true p.to p.from p1.1; count = fit.0; fit = fit.1 }

-- What is read is spelled so.
pub packet_spelled : {F : Type 0} (bad : ℕ → F) (bytes : List ℕ) (p : Packet) → packet_of_text bad bytes ≡ Ok p → IsPacketText bytes p
unfolding packet_of_text
packet_spelled bad bytes p e =
    bound _ (read_line bad read_packet_head (all_lines bytes)) p e (λ head e0 r0.
    bound _ (records_at bad head.0.0 (head.0.0 - head.0.1) head.1) p r0 (λ records e1 r1.
    bound _ (last_at bad records.1) p r1 (λ end e2 r2.
    let row = read_line_is bad read_packet_head (all_lines bytes) head e0 in
    let one = head_is row.0 head.0 row.2 in
    let all = records_are bad head.0.0 (head.0.0 - head.0.1) head.1 records e1 in
    let f0 = row.1 in
    let f1 = one.0 in
    let f2 = all.spelled in
    let f3 = last_is bad records.1 end e2 in
    let made : Packet = record { from = head.0.0; to = head.0.1; steps = records.0 } in
    let same : made ≡ p = cc in
    let rows : rows_of bytes ≡ sections made (([] ∷ []) ∷ []) = cc in
    let grouped : (packet_words head.0.0 head.0.1 ∷ (flat_map record_rows records.0 ++ (codes "end" ∷ []) ∷ [])) ++ ([] ∷ []) ∷ [] ≡ sections made (([] ∷ []) ∷ []) =
    ap (λ (r : List Row). packet_words head.0.0 head.0.1 ∷ r) (append_assoc (flat_map record_rows records.0) ((codes "end" ∷ []) ∷ []) (([] ∷ []) ∷ [])) in
    let form = records_form head.0.0 (head.0.0 - head.0.1) records.0 all.count all.fit in
    let fits : is_packet_row made ≡ true = rw (one.1, le-leb head.0.1 head.0.0 one.2, form.0, form.1) refl in
    let text : List Row = packet_words head.0.0 head.0.1 ∷ (flat_map record_rows records.0 ++ (codes "end" ∷ []) ∷ []) in
    subst (λ (q : Packet). IsPacketText bytes q) same (record { form = fits; spelled = lines_from_rows bytes text (rows ∙ sym grouped) }))))

-- no word of the text of a packet has a separator
packet_plain : (p : Packet) → PacketFacts p → list_all is_plain_row (sections p []) ≡ true
packet_plain p facts =
    let last : List Row = (codes "end" ∷ []) ∷ [] in
    let to_small : is_number p.to ≡ true = number_test p.to (omega (arith, facts.to, number_small p.from facts.from)) in
    let head : is_plain_row (packet_words p.from p.to) ≡ true = rw (number_plain p.from facts.from, number_plain p.to to_small) refl in
    let records = each_plain before (record_at bad_text) fits_record record_rows (record_reader bad_text) p.from p.steps facts.fit in
    and_from _ _ head (list_all-append is_plain_row (flat_map record_rows p.steps) last ∙ and_from _ _ records refl)

-- What is spelled so is read.
pub packet_again : {F : Type 0} (bad : ℕ → F) (bytes : List ℕ) (p : Packet) → IsPacketText bytes p → packet_of_text bad bytes ≡ Ok p
unfolding packet_of_text
packet_again bad bytes p is =
    let facts = packet_facts p is.form in
    let grouped : sections p [] ++ ([] ∷ []) ∷ [] ≡ sections p (([] ∷ []) ∷ []) =
    ap (λ (r : List Row). packet_words p.from p.to ∷ r) (append_assoc (flat_map record_rows p.steps) ((codes "end" ∷ []) ∷ []) (([] ∷ []) ∷ [])) in
    let rows : rows_of bytes ≡ sections p (([] ∷ []) ∷ []) = ap rows_of is.spelled ∙ rows_again (sections p []) (packet_plain p facts) ∙ grouped in
    let of_records : List Row = flat_map record_rows p.steps ++ last_rows in
    let some : of_records ≢ [] = some_rows (flat_map record_rows p.steps) last_rows (λ e. cc) in
    let head = read_line_again bad read_packet_head 1 (packet_words p.from p.to) of_records (p.from, p.to) some (head_again p.from p.to facts.from facts.to) in
    let records = records_again bad p.from (next_number 1) p.steps last_rows (λ e. cc) facts.fit in
    let read : records_at bad p.from (p.from - p.to) (lines_from (next_number 1) of_records) ≡ Ok (p.steps, lines_from records.0 last_rows) =
    ap (λ k. records_at bad p.from k (lines_from (next_number 1) of_records)) (sym facts.count) ∙ records.1 in
    rw (rows, head, read, last_again bad records.0) refl

-- ---- what the call answers

-- what is read is spelled so
pub packet_read : (bytes : List ℕ) (r : Result Packet (Or BadText)) → GivesWhole r (packet_of_text bad_text bytes) → IfOk r (IsPacketText bytes)
packet_read bytes (Ok p) given = packet_spelled bad_text bytes p given
packet_read bytes (Err e) given = tt

-- what is spelled so is read
pub packet_found : (bytes : List ℕ) (r : Result Packet (Or BadText)) (p : Packet) → IsPacketText bytes p → GivesWhole r (packet_of_text bad_text bytes) → GivesWhole r (Ok p)
packet_found bytes r p is given = subst (λ read. GivesWhole r read) (packet_again bad_text bytes p is) given

-- the fault comes where nothing is spelled
pub packet_fault : (bytes : List ℕ) (r : Result Packet (Or BadText)) (f : BadText) (p : Packet) → r ≡ Err (Fault f) → GivesWhole r (packet_of_text bad_text bytes) → ¬ (IsPacketText bytes p)
packet_fault bytes r f p is given = λ spelled.
    let refused : packet_of_text bad_text bytes ≡ Err f = subst (λ (x : Result Packet (Or BadText)). GivesWhole x (packet_of_text bad_text bytes)) is given in
    let again = packet_again bad_text bytes p spelled in
    cc
