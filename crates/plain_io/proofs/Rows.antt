-- Texts of rows of words: rows without a separator in a word are cut again as they were joined.
use Rattle.std.proofs.Common.{◌≡◌, ℕ, Bool, true, false, eqb, not, List, [], ◌∷◌, ◌++◌, map, refl, sym, ap, ◌∙◌, append_assoc}
use Rattle.std.specs.List.{All, list_all, join_with_byte, slice_split, flat_map, AllByRecursion}
use Rattle.std.proofs.lemmas.Bool.{and_parts, not-true}
use Rattle.std.proofs.lemmas.List.{append-nil, map-append}
use Rattle.std.proofs.lemmas.List.Elements.{All-append, All-cons, All-from_recursion}
use Rattle.std.proofs.lemmas.List.Folds.{flat_map-map}
use Rattle.std.proofs.lemmas.List.Splits.{slice_split_none, slice_split_at, join_with_byte-slice_split}
use Rattle.line_forms.specs.Texts.{line, lines, rows_of}
use Rattle.plain_io.proofs.Words.{is_plain, is_plain_word}

-- ---- what is cut is joined again

-- lines with a line feed between each two, and an empty last one, are lines that each end in a line feed
joined_line : (words : List (List ℕ)) → join_with_byte 10 (words ++ [] ∷ []) ≡ flat_map (λ w. w ++ 10 ∷ []) words
joined_line [] = refl
joined_line (w ∷ []) = sym (append-nil (w ++ 10 ∷ []))
joined_line (w ∷ v ∷ words) = ap (λ (rest : List ℕ). w ++ 10 ∷ rest) (joined_line (v ∷ words)) ∙ sym (append_assoc w (10 ∷ []) (flat_map (λ x. x ++ 10 ∷ []) (v ∷ words)))

-- lines that are cut at their spaces are joined again
joined_again : (parts : List (List ℕ)) → map (join_with_byte 32) (map (slice_split (λ b. eqb b 32)) parts) ≡ parts
joined_again [] = refl
joined_again (part ∷ parts) = rw (join_with_byte-slice_split 32 part, joined_again parts) refl

-- bytes that are cut into these rows, and one of an empty word, are their text
pub lines_from_rows : (bytes : List ℕ) (rows : List (List (List ℕ))) → rows_of bytes ≡ rows ++ ([] ∷ []) ∷ [] → bytes ≡ lines rows
lines_from_rows bytes rows e =
    let parts : List (List ℕ) = slice_split (λ b. eqb b 10) bytes in
    let cut : parts ≡ map (join_with_byte 32) rows ++ [] ∷ [] = sym (joined_again parts) ∙ ap (map (join_with_byte 32)) e ∙ map-append (join_with_byte 32) rows (([] ∷ []) ∷ []) in
    sym (join_with_byte-slice_split 10 bytes) ∙ ap (join_with_byte 10) cut ∙ joined_line (map (join_with_byte 32) rows) ∙ flat_map-map (λ w. w ++ 10 ∷ []) (join_with_byte 32) rows

-- ---- what is joined is cut again

-- a row that has a word, each without a separator
abbrev pub is_plain_row : List (List ℕ) → Bool
is_plain_row [] = false
is_plain_row (w ∷ row) = list_all is_plain_word (w ∷ row)

-- a plain word has no space
no_space : (word : List ℕ) → is_plain_word word ≡ true → AllByRecursion (λ b. eqb b 32 ≡ false) word
no_space [] h = tt
no_space (b ∷ word) h =
    let parts = and_parts (is_plain b) (is_plain_word word) h in
    (not-true _ (and_parts (not (eqb b 32)) (not (eqb b 10)) parts.0).0, no_space word parts.1)

-- a plain word has no line feed
no_feed : (word : List ℕ) → is_plain_word word ≡ true → AllByRecursion (λ b. eqb b 10 ≡ false) word
no_feed [] h = tt
no_feed (b ∷ word) h =
    let parts = and_parts (is_plain b) (is_plain_word word) h in
    (not-true _ (and_parts (not (eqb b 32)) (not (eqb b 10)) parts.0).1, no_feed word parts.1)

-- plain words that are joined are cut again
cut_words : (w : List ℕ) (row : List (List ℕ)) → list_all is_plain_word (w ∷ row) ≡ true → slice_split (λ b. eqb b 32) (join_with_byte 32 (w ∷ row)) ≡ w ∷ row
cut_words w [] h =
    let parts = and_parts (is_plain_word w) true h in
    slice_split_none (λ b. eqb b 32) w (All-from_recursion _ w (no_space w parts.0))
cut_words w (v ∷ row) h =
    let parts = and_parts (is_plain_word w) (list_all is_plain_word (v ∷ row)) h in
    slice_split_at (λ b. eqb b 32) w 32 (join_with_byte 32 (v ∷ row)) (All-from_recursion _ w (no_space w parts.0)) refl ∙ ap (λ rest. w ∷ rest) (cut_words v row parts.1)

-- the byte is no line feed
abbrev IsNoFeed : ℕ → Type 0
IsNoFeed b = eqb b 10 ≡ false

-- a row of plain words has no line feed
row_feedless : (w : List ℕ) (row : List (List ℕ)) → list_all is_plain_word (w ∷ row) ≡ true → All IsNoFeed (join_with_byte 32 (w ∷ row))
row_feedless w [] h = All-from_recursion IsNoFeed w (no_feed w (and_parts (is_plain_word w) true h).0)
row_feedless w (v ∷ row) h =
    let parts = and_parts (is_plain_word w) (list_all is_plain_word (v ∷ row)) h in
    let after : All IsNoFeed (32 ∷ join_with_byte 32 (v ∷ row)) = All-cons IsNoFeed 32 (join_with_byte 32 (v ∷ row)) refl (row_feedless v row parts.1) in
    All-append IsNoFeed w (32 ∷ join_with_byte 32 (v ∷ row)) (All-from_recursion IsNoFeed w (no_feed w parts.0)) after

-- a line of plain words is the first row of its text
cut_line : (row : List (List ℕ)) (rest : List ℕ) → is_plain_row row ≡ true → rows_of (line row ++ rest) ≡ row ∷ rows_of rest
cut_line [] rest h = absurd cc
cut_line (w ∷ row) rest h =
    let first : slice_split (λ b. eqb b 10) (line (w ∷ row) ++ rest) ≡ join_with_byte 32 (w ∷ row) ∷ slice_split (λ b. eqb b 10) rest = ap (slice_split (λ b. eqb b 10)) (append_assoc (join_with_byte 32 (w ∷ row)) (10 ∷ []) rest) ∙ slice_split_at (λ b. eqb b 10) (join_with_byte 32 (w ∷ row)) 10 rest (row_feedless w row h) refl in
    ap (map (slice_split (λ b. eqb b 32))) first ∙ ap (λ words. words ∷ rows_of rest) (cut_words w row h)

-- the text of plain rows is cut into these rows, and one of an empty word
pub rows_again : (rows : List (List (List ℕ))) → list_all is_plain_row rows ≡ true → rows_of (lines rows) ≡ rows ++ ([] ∷ []) ∷ []
rows_again [] h = refl
rows_again (row ∷ rows) h =
    let parts = and_parts (is_plain_row row) (list_all is_plain_row rows) h in
    cut_line row (lines rows) parts.0 ∙ ap (λ rest. row ∷ rest) (rows_again rows parts.1)
