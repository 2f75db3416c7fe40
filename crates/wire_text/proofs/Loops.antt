-- What a loop over lines answers: where a line is at fault, and where one more is read.
use Rattle.std.proofs.Common.{◌≡◌, ℕ, ◌-◌, ◌<◌, List, ◌∙◌, Option, Result, Ok, Err, sym, ap}
use Rattle.std.specs.Option.{ok_or}
use Rattle.tgap_model.specs.declared.failure.Or.{Or}
use Rattle.tgap_model.specs.declared.failure.Or.TheVariants.{Fault}
use Rattle.line_forms.specs.Words.{Row}
use Rattle.line_forms.specs.Lines.{Lines, read_row, read_line}
use Rattle.wire_text.specs.SliceReading.{each_at}
use Rattle.plain_io.specs.Taking.{Reads, Refuses}
use Rattle.plain_io.specs.Fronts.{in_front}
use Rattle.plain_io.proofs.Loops.{found, missing, refused, refused_at}
use Rattle.wire_text.proofs.Each.{each_stop}

-- a line that was read
pub line_found : {A F : Type 0} (bad : ℕ → F) (read : Row → Option A) (lines rest : Lines) (n : ℕ) (taken : Option A) (x : A)
    → n ≡ lines.number → Ok x ≡ ok_or taken (Fault (bad n)) → Reads taken rest (read_row read lines) → read_line bad read lines ≡ Ok (x, rest)
line_found {A} {F} bad read lines rest n taken x number e h =
    ap (λ (o : Option (A × Lines)). ok_or o (bad lines.number)) (found taken x rest (read_row read lines) (Fault (bad n)) e h)

-- the fault of a line that is out of form
pub line_refused : {A F : Type 0} (bad : ℕ → F) (read : Row → Option A) (lines rest : Lines) (n : ℕ) (taken : Option A) (f : Or F)
    → n ≡ lines.number → Err f ≡ ok_or taken (Fault (bad n)) → Reads taken rest (read_row read lines) → Refuses f (read_line bad read lines)
line_refused {A} {F} bad read lines rest n taken f number e h =
    let none = missing taken f (Fault (bad n)) rest (read_row read lines) e h in
    refused_at f (bad lines.number) (read_row read lines) (none.0 ∙ ap (λ k. Fault (bad k)) number) none.1

-- the fault of what is read one after another, where the next one is at fault
pub each_refused : {A F : Type 0} (next : ℕ → A → ℕ) (read : ℕ → Lines → Result (A × Lines) F) (front : List A) (n i k : ℕ) (lines : Lines)
    (total : Result (List A × Lines) F) (f : Or F) → i < n → in_front front (each_at next read k (n - i) lines) ≡ total → Refuses f (read k lines) → Refuses f total
each_refused next read front n i k lines total f lt whole h =
    refused f (read k lines) total (λ g e. sym whole ∙ each_stop next read front n i k lines g lt e) h
