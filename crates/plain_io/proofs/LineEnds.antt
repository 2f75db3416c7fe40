-- The lines of a text, and what is left after the last one.
use Rattle.std.proofs.Common.{◌≡◌, ◌≢◌, ◌↔◌, ℕ, Bool, true, false, not, eqb, List, [], ◌∷◌, length, Option, Some, None, IsTrue, refl, sym, ap, ◌∙◌, arith}
use Rattle.std.proofs.lemmas.Bool.{eqb-true}
use Rattle.std.specs.Borrow.{Bor}
use Rattle.std.specs.Option.{is_some}
use Rattle.std.specs.List.{slice_split, join_with_byte}
use Rattle.std.proofs.lemmas.List.Splits.{join_with_byte-slice_split}
use Rattle.line_forms.specs.Words.{Row}
use Rattle.line_forms.specs.Lines.{Lines, whole_line, line_at, next_number, is_over}
use Rattle.plain_io.specs.Rest.{split_rest}
use Rattle.plain_io.specs.Taking.{rows}
use Rattle.plain_io.proofs.Words.{same_bytes}

-- a line that another piece stands after
line_taken : (n : ℕ) (piece : List ℕ) (rest : List (List ℕ)) → rest ≢ [] → whole_line n (rows (piece ∷ rest)) ≡ Some (slice_split (λ b. eqb b 32) piece, record { number = next_number n; rows = rows rest })
line_taken n piece [] some = absurd (some refl)
line_taken n piece (next ∷ rest) some = refl

-- the same of the lines with their number
pub next_line_taken : (lines : Lines) (n next : ℕ) (pieces rest : List (List ℕ)) (piece : List ℕ) (words : Row)
    → record { number = n; rows = rows pieces } ≡ lines → (pieces ≡ piece ∷ rest) × (rest ≢ [])
    → words ≡ slice_split (λ b. eqb b 32) piece → next ≡ next_number n → line_at lines ≡ Some (words, record { number = next; rows = rows rest })
next_line_taken lines n next pieces rest piece words view ended spelled counted =
    sym (ap line_at view) ∙ ap (λ p. whole_line n (rows p)) ended.0 ∙ line_taken n piece rest ended.1
    ∙ ap (λ w. Some (w, record { number = next_number n; rows = rows rest })) (sym spelled)
    ∙ ap (λ m. Some (words, record { number = m; rows = rows rest })) (sym counted)

-- a text that is cut into one empty piece is empty
pub uncut_empty : (separator : ℕ) (bytes : List ℕ) → slice_split (λ b. eqb b separator) bytes ≡ [] ∷ [] → bytes ≡ []
uncut_empty separator bytes e = sym (join_with_byte-slice_split separator bytes) ∙ ap (join_with_byte separator) e

-- there is a first piece, be it empty
pub some_piece : (separator : ℕ) (bytes : List ℕ) → slice_split (λ b. eqb b separator) bytes ≡ [] → ⊥
some_piece separator bytes none =
    let empty : bytes ≡ [] = sym (join_with_byte-slice_split separator bytes) ∙ ap (join_with_byte separator) none in
    let one : [] ∷ [] ≡ slice_split (λ b. eqb b separator) bytes = ap (slice_split (λ b. eqb b separator)) (sym empty) in
    cc

-- the test for no rest
pub done_tested : (separator : ℕ) (rest : Option (Bor (List ℕ))) (pieces : List (List ℕ)) (test : Bool) → split_rest separator rest ≡ pieces → is_some rest ≡ not test
    → IsTrue test ↔ (pieces ≡ [])
done_tested separator None pieces true view told = (λ _. sym view, λ _. refl)
done_tested separator None pieces false view told = absurd cc
done_tested separator (Some rest) pieces true view told = absurd cc
done_tested separator (Some rest) pieces false view told = (λ no. absurd cc, λ none. absurd (some_piece separator rest.now (view ∙ none)))

-- the test for a rest of one empty piece
pub one_empty_tested : (separator : ℕ) (bytes : List ℕ) (pieces : List (List ℕ)) (test : Bool) → slice_split (λ b. eqb b separator) bytes ≡ pieces
    → test ≡ eqb (length bytes) 0 → IsTrue test ↔ (pieces ≡ [] ∷ [])
one_empty_tested separator [] pieces test view told = (λ _. sym view, λ _. told)
one_empty_tested separator (b ∷ bytes) pieces test view told =
    (λ yes. absurd (let zero = eqb-true (length (b ∷ bytes)) 0 (sym told ∙ yes) in omega arith), λ one. let none : b ∷ bytes ≡ [] = uncut_empty separator (b ∷ bytes) (view ∙ one) in absurd cc)

-- one word that is empty
empty_row : (piece : List ℕ) (row : List (List ℕ)) → slice_split (λ b. eqb b 32) piece ≡ row → is_over (row ∷ []) ≡ true → piece ≡ []
empty_row piece [] e over = absurd cc
empty_row piece (word ∷ []) e over = uncut_empty 32 piece (e ∙ ap (λ (w : List ℕ). w ∷ []) (same_bytes word [] over))
empty_row piece (word ∷ more ∷ row) e over = absurd cc

-- two rows are more than that
two_rows : (row next : List (List ℕ)) (rest : List (List (List ℕ))) → is_over (row ∷ next ∷ rest) ≡ true → ⊥
two_rows [] next rest over = cc
two_rows (word ∷ []) next rest over = cc
two_rows (word ∷ more ∷ row) next rest over = cc

-- nothing is left only where one empty piece is
over_pieces : (pieces : List (List ℕ)) → is_over (rows pieces) ≡ true → pieces ≡ [] ∷ []
over_pieces [] over = absurd cc
over_pieces (piece ∷ []) over = ap (λ (p : List ℕ). p ∷ []) (empty_row piece (slice_split (λ b. eqb b 32) piece) refl over)
over_pieces (piece ∷ more ∷ pieces) over = absurd (two_rows (slice_split (λ b. eqb b 32) piece) (slice_split (λ b. eqb b 32) more) (rows pieces) over)

-- what is left is more than that where it is not one empty piece
not_over : (pieces : List (List ℕ)) (over : Bool) → is_over (rows pieces) ≡ over → (pieces ≡ [] ∷ [] → IsTrue false) → false ≡ over
not_over pieces true e h = h (over_pieces pieces e)
not_over pieces false e h = refl

-- the test for one empty piece
pub over_tested : (test : Bool) (pieces : List (List ℕ)) → (IsTrue test ↔ (pieces ≡ [] ∷ [])) → test ≡ is_over (rows pieces)
over_tested true pieces h = sym (ap (λ p. is_over (rows p)) (h.0 refl))
over_tested false pieces h = not_over pieces (is_over (rows pieces)) refl h.1
