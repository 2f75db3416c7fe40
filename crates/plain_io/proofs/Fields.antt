-- Lines that are written word after word.
use Rattle.std.proofs.Common.{◌≡◌, ℕ, List, [], ◌∷◌, ◌++◌, Result, Ok, Err, is_ok, OnOk, cond, sym, ap, ◌∙◌, append_assoc}
use Rattle.std.specs.List.{join_with_byte}
use Rattle.std.proofs.lemmas.Grind.{flat_map-append}
use Rattle.std.proofs.lemmas.List.{append-nil}
use Rattle.line_forms.specs.Texts.{line, lines}
use Rattle.plain_io.specs.Fields.{fields}

-- words with a space between each two are the first one, and the others with a space before each
joined_fields : (w : List ℕ) (words : List (List ℕ)) → join_with_byte 32 (w ∷ words) ≡ w ++ fields words
joined_fields w [] = sym (append-nil w)
joined_fields w (v ∷ words) = ap (λ (rest : List ℕ). w ++ 32 ∷ rest) (joined_fields v words)

-- a line is its first word, the others with a space before each, and a line feed
pub line_fields : (w : List ℕ) (words : List (List ℕ)) → line (w ∷ words) ≡ w ++ (fields words ++ 10 ∷ [])
line_fields w words = ap (λ (text : List ℕ). text ++ 10 ∷ []) (joined_fields w words) ∙ append_assoc w (fields words) (10 ∷ [])

-- ---- a line that is put word after word, behind what was there

-- its first word
pub word_put : (start new w : List ℕ) → new ≡ start ++ w → new ≡ start ++ (w ++ fields [])
word_put start new w e = e ∙ ap (λ (text : List ℕ). start ++ text) (sym (append-nil w))

-- more words, with a space before each
pub fields_put : (start old new w : List ℕ) (words more : List (List ℕ)) → old ≡ start ++ (w ++ fields words) → new ≡ old ++ fields more → new ≡ start ++ (w ++ fields (words ++ more))
fields_put start old new w words more e f =
    f ∙ ap (λ (text : List ℕ). text ++ fields more) e ∙ append_assoc start (w ++ fields words) (fields more)
    ∙ ap (λ (text : List ℕ). start ++ text) (append_assoc w (fields words) (fields more) ∙ ap (λ (text : List ℕ). w ++ text) (sym (flat_map-append (λ (v : List ℕ). 32 ∷ v) words more)))

-- one word more
pub field_put : (start old new w : List ℕ) (words : List (List ℕ)) (v : List ℕ) → old ≡ start ++ (w ++ fields words) → new ≡ old ++ 32 ∷ v → new ≡ start ++ (w ++ fields (words ++ v ∷ []))
field_put start old new w words v e f =
    fields_put start old new w words (v ∷ []) e (f ∙ ap (λ (text : List ℕ). old ++ text) (sym (append-nil (32 ∷ v))))

-- its line feed
pub line_put : (start old w : List ℕ) (words : List (List ℕ)) → old ≡ start ++ (w ++ fields words) → old ++ 10 ∷ [] ≡ start ++ line (w ∷ words)
line_put start old w words e =
    ap (λ (text : List ℕ). text ++ 10 ∷ []) e ∙ append_assoc start (w ++ fields words) (10 ∷ []) ∙ ap (λ (text : List ℕ). start ++ text) (append_assoc w (fields words) (10 ∷ []) ∙ sym (line_fields w words))

-- what a last push makes of a text, where it was not refused
pub last_pushed : {A E : Type 0} (r : Result A E) (old new bytes whole : List ℕ) → new ≡ cond (is_ok r) (old ++ bytes) old → old ++ bytes ≡ whole → OnOk r (new ≡ whole)
last_pushed (Ok x) old new bytes whole e h = e ∙ h
last_pushed (Err x) old new bytes whole e h = tt

-- ---- lines that are put after lines

-- more lines
pub lines_put : (old new : List ℕ) (rows more : List (List (List ℕ))) → old ≡ lines rows → new ≡ old ++ lines more → new ≡ lines (rows ++ more)
lines_put old new rows more e f = f ∙ ap (λ (text : List ℕ). text ++ lines more) e ∙ sym (flat_map-append line rows more)

-- one line more
pub line_after : (old new : List ℕ) (rows : List (List (List ℕ))) (row : List (List ℕ)) → old ≡ lines rows → new ≡ old ++ line row → new ≡ lines (rows ++ row ∷ [])
line_after old new rows row e f = lines_put old new rows (row ∷ []) e (f ∙ ap (λ (text : List ℕ). old ++ text) (sym (append-nil (line row))))
