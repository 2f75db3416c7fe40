-- The lines of a batch, one after another.
use Rattle.std.proofs.Common.{◌≡◌, ◌∙◌, ℕ, ◌≤◌, Bool, eqb, List, [], ◌∷◌, length, Some, None, Result, Ok, Err, refl, sym, ap, subst, arith}
use Rattle.std.specs.Prelude.{if◌then◌else◌}
use Rattle.std.proofs.lemmas.List.{length-map}
use Rattle.std.specs.List.{slice_split, onto_first}
use Rattle.std.proofs.lemmas.List.Splits.{slice_split-cons_yes, slice_split-cons_no}
use Rattle.tgap_model.specs.Base.{BaseMap}
use Rattle.line_forms.specs.Texts.{rows_of}
use Rattle.line_forms.specs.Words.{Row}
use Rattle.line_forms.specs.Lines.{Lines, ◌>>=◌, next_number, whole_line, line_at, is_over}
use Rattle.tgap_model.specs.declared.failure.Or.{Or}
use Rattle.tgap_model.specs.declared.failure.Or.TheVariants.{Fault, Memory}
use Rattle.plain_io.specs.Taking.{Refuses}
use Rattle.map_version.specs.Faults.{fault_at, GivesEdited}
use Rattle.edit_laws.proofs.Cases.{by_test}
use Rattle.edit_laws.specs.Edits.{apply_line, at_line, edit_rows}

-- the lines of which the first is this one, and the others these
pub record IsNext (n : ℕ) (rows : List Row) (row : Row) (rest : Lines) : Type 0 where
  pub some : 1 ≤ length rest.rows
  pub edits : (m : BaseMap) → edit_rows n rows m ≡ (at_line n (apply_line m row) >>= edit_rows rest.number rest.rows)

next_is : (n : ℕ) (rows : List Row) (row : Row) (rest : Lines) → whole_line n rows ≡ Some (row, rest) → IsNext n rows row rest
next_is n [] row rest e = absurd cc
next_is n (r ∷ []) row rest e = absurd cc
next_is n (r ∷ next ∷ rows) row rest e =
    let left : Lines = record { number = next_number n; rows = next ∷ rows } in
    let here : Row × Lines = (r, left) in
    let there : Row × Lines = (row, rest) in
    let same : here ≡ there = cc in
    subst (λ (x : Row × Lines). IsNext n (r ∷ next ∷ rows) x.0 x.1) same (record { some = omega arith; edits = λ m. refl })

-- a line that is taken
pub line_taken : (lines : Lines) (row : Row) (rest : Lines) → line_at lines ≡ Some (row, rest) → IsNext lines.number lines.rows row rest
line_taken lines row rest e = next_is lines.number lines.rows row rest e

-- the map after a line, and what comes then
pub line_applied : (lines : Lines) (row : Row) (rest : Lines) (m n : BaseMap) → line_at lines ≡ Some (row, rest) → apply_line m row ≡ Ok n
    → edit_rows lines.number lines.rows m ≡ edit_rows rest.number rest.rows n
line_applied lines row rest m n e made = rw ((line_taken lines row rest e).edits m, made) refl

pub line_refused : (lines : Lines) (row : Row) (rest : Lines) (m : BaseMap) (cause : ℕ) → line_at lines ≡ Some (row, rest) → apply_line m row ≡ Err cause
    → edit_rows lines.number lines.rows m ≡ Err (lines.number, cause)
line_refused lines row rest m cause e made = rw ((line_taken lines row rest e).edits m, made) refl

-- what stands after the last line feed
last_is : (n : ℕ) (rows : List Row) (m : BaseMap) → 1 ≤ length rows → whole_line n rows ≡ None
    → (let fault : ℕ × ℕ = (n, 1) in edit_rows n rows m ≡ (if is_over rows then Ok m else Err fault))
last_is n [] m some e = absurd (omega arith)
last_is n (row ∷ []) m some e = refl
last_is n (row ∷ next ∷ rows) m some e = absurd cc

pub last_row : (lines : Lines) (m : BaseMap) → 1 ≤ length lines.rows → line_at lines ≡ None
    → (let fault : ℕ × ℕ = (lines.number, 1) in edit_rows lines.number lines.rows m ≡ (if is_over lines.rows then Ok m else Err fault))
last_row lines m some e = last_is lines.number lines.rows m some e

-- ---- there is a line, if only an empty one

some_onto : {X : Type 0} (x : X) (parts : List (List X)) → 1 ≤ length parts → 1 ≤ length (onto_first x parts)
some_onto x [] some = absurd (omega arith)
some_onto x (part ∷ parts) some = omega arith

one_and_more : (parts : List (List ℕ)) → 1 ≤ length ([] ∷ parts)
one_and_more parts = omega arith

some_part : (test : ℕ → Bool) (xs : List ℕ) → 1 ≤ length (slice_split test xs)
some_part test [] = omega arith
some_part test (x ∷ xs) =
    by_test (test x)
    (λ t. subst (λ (parts : List (List ℕ)). 1 ≤ length parts) (sym (slice_split-cons_yes test x xs t)) (one_and_more (slice_split test xs)))
    (λ f. subst (λ (parts : List (List ℕ)). 1 ≤ length parts) (sym (slice_split-cons_no test x xs f)) (some_onto x (slice_split test xs) (some_part test xs)))

pub some_row : (bytes : List ℕ) → 1 ≤ length (rows_of bytes)
some_row bytes = (let e = length-map (slice_split (λ b. eqb b 10) bytes) (slice_split (λ b. eqb b 32)) in let some = some_part (λ b. eqb b 10) bytes in omega arith)

-- a line that is refused, with its number
pub refused_with : {X : Type 0} (cause : Or ℕ) (n : ℕ) (read : Result BaseMap ℕ) (whole : Result X (ℕ × ℕ)) → Refuses cause read
    → ((k : ℕ) → read ≡ Err k → whole ≡ Err (n, k)) → GivesEdited {X = X} (Err (fault_at n cause)) whole
refused_with Memory n read whole h goes = tt
refused_with (Fault k) n read whole h goes = goes k h

-- the end of a batch
pub over_gives : (lines : Lines) (m : BaseMap) (over : Bool) → 1 ≤ length lines.rows → line_at lines ≡ None → is_over lines.rows ≡ over
    → (let fault : ℕ × ℕ = (lines.number, 1) in edit_rows lines.number lines.rows m ≡ (if over then Ok m else Err fault))
over_gives lines m over some none e =
    last_row lines m some none ∙ (let fault : ℕ × ℕ = (lines.number, 1) in let right : Result BaseMap (ℕ × ℕ) = Ok m in let wrong : Result BaseMap (ℕ × ℕ) = Err fault in
    ap (λ (b : Bool). if b then right else wrong) e)
