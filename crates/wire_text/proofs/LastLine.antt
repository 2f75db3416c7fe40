-- The last line, and what stands after it.
use Rattle.std.proofs.Common.{◌≡◌, ℕ, Bool, true, false, cond, List, [], ◌∷◌, Ok, Err, refl, ap, ◌∙◌}
use Rattle.std.specs.Prelude.{codes}
use Rattle.line_forms.specs.Words.{Row, read_words}
use Rattle.line_forms.specs.Lines.{Lines, read_line, is_over}
use Rattle.wire_text.specs.SliceReading.{last_at}
use Rattle.plain_io.proofs.Words.{same_bytes}
use Rattle.plain_io.proofs.Steps.{bound, read_words_is, read_line_is, lines_from}

-- the last line, and what is left after it
abbrev pub last_rows : List Row
last_rows = (codes "end" ∷ []) ∷ ([] ∷ []) ∷ []

-- nothing is left but one row, of one empty word
over_is : (rows : List Row) → is_over rows ≡ true → rows ≡ ([] ∷ []) ∷ []
over_is [] e = absurd cc
over_is ([] ∷ []) e = absurd cc
over_is ([] ∷ row ∷ rows) e = absurd cc
over_is ((word ∷ []) ∷ []) e = ap (λ (w : List ℕ). (w ∷ []) ∷ []) (same_bytes word [] e)
over_is ((word ∷ []) ∷ row ∷ rows) e = absurd cc
over_is ((word ∷ more ∷ words) ∷ []) e = absurd cc
over_is ((word ∷ more ∷ words) ∷ row ∷ rows) e = absurd cc

-- what a test lets pass
test_ok : {A F : Type 0} (b : Bool) (x y : A) (f : F) → cond b (Ok x) (Err f) ≡ Ok y → b ≡ true
test_ok true x y f e = refl
test_ok false x y f e = absurd cc

-- the last line that is read is spelled so, and nothing is after it
pub last_is : {F : Type 0} (bad : ℕ → F) (lines : Lines) (x : Unit {0}) → last_at bad lines ≡ Ok x → lines.rows ≡ last_rows
unfolding last_at
last_is bad lines x e =
    bound _ (read_line bad (read_words (codes "end" ∷ [])) lines) x e (λ last e0 r0.
    let row = read_line_is bad (read_words (codes "end" ∷ [])) lines last e0 in
    let over = over_is last.1.rows (test_ok (is_over last.1.rows) tt x (bad last.1.number) r0) in
    row.1 ∙ ap (λ (r : Row). r ∷ last.1.rows) (read_words_is (codes "end" ∷ []) row.0 last.0 row.2) ∙ ap (λ (rows : List Row). (codes "end" ∷ []) ∷ rows) over)

-- it is read again
pub last_again : {F : Type 0} (bad : ℕ → F) (n : ℕ) → last_at bad (lines_from n last_rows) ≡ Ok tt
unfolding last_at
last_again bad n = refl
