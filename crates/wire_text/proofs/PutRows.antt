-- Rows that are put piece after piece: a first word, and then the others with the line feed.
use Rattle.std.proofs.Common.{◌≡◌, ℕ, List, [], ◌∷◌, ◌++◌, Result, Ok, Err, OnOk, sym, ap, ap₂, ◌∙◌, append_assoc}
use Rattle.std.specs.Prelude.{flat_map}
use Rattle.std.proofs.lemmas.Grind.{flat_map-append}
use Rattle.tgap_model.specs.declared.geometry.Point.{Point}
use Rattle.line_forms.specs.Texts.{line}
use Rattle.line_forms.specs.Words.{Row}
use Rattle.map_forms.specs.Listing.{point_words}
use Rattle.plain_io.specs.Fields.{fields}
use Rattle.plain_io.proofs.Fields.{line_fields}

-- the first word, and then the others
row_put : (start begun rest w : List ℕ) (words : Row) → begun ≡ start ++ w → rest ≡ fields words ++ 10 ∷ [] → begun ++ rest ≡ start ++ line (w ∷ words)
row_put start begun rest w words e f =
    ap₂ (λ (xs ys : List ℕ). xs ++ ys) e f ∙ append_assoc start w (fields words ++ 10 ∷ []) ∙ ap (λ (text : List ℕ). start ++ text) (sym (line_fields w words))

-- the same, where the others were put, if there was memory for them
pub row_ended : {A E : Type 0} (r : Result A E) (start begun new rest w : List ℕ) (words : Row) → begun ≡ start ++ w → rest ≡ fields words ++ 10 ∷ []
    → OnOk r (new ≡ begun ++ rest) → OnOk r (new ≡ start ++ line (w ∷ words))
row_ended (Ok x) start begun new rest w words e f h = h ∙ row_put start begun rest w words e f
row_ended (Err x) start begun new rest w words e f h = tt

-- more words
pub words_put : (start begun : List ℕ) (words more : Row) → begun ≡ start ++ fields words → begun ++ fields more ≡ start ++ fields (words ++ more)
words_put start begun words more e =
    ap (λ (text : List ℕ). text ++ fields more) e ∙ append_assoc start (fields words) (fields more)
    ∙ ap (λ (text : List ℕ). start ++ text) (sym (flat_map-append (λ (v : List ℕ). 32 ∷ v) words more))

-- more words before an end
pub words_then : (words more : Row) (end : List ℕ) → fields words ++ (fields more ++ end) ≡ fields (words ++ more) ++ end
words_then words more end =
    sym (append_assoc (fields words) (fields more) end) ∙ ap (λ (text : List ℕ). text ++ end) (sym (flat_map-append (λ (v : List ℕ). 32 ∷ v) words more))

-- some points, and then those that are left
pub points_put : (old new : List ℕ) (few others rest : List Point) → new ≡ old ++ fields (flat_map point_words few) → few ++ others ≡ rest
    → new ++ fields (flat_map point_words others) ≡ old ++ fields (flat_map point_words rest)
points_put old new few others rest e split =
    words_put old new (flat_map point_words few) (flat_map point_words others) e
    ∙ ap (λ (words : Row). old ++ fields words) (sym (flat_map-append point_words few others))
    ∙ ap (λ (points : List Point). old ++ fields (flat_map point_words points)) split
