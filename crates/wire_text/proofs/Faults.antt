-- The line of a fault, word after word.
use Rattle.std.proofs.Common.{◌≡◌, ℕ, List, [], ◌∷◌, ◌++◌, Result, Ok, Err, refl, ◌∙◌}
use Rattle.std.specs.Prelude.{codes, IfOk}
use Rattle.line_forms.specs.Texts.{line, refused_words}
use Rattle.plain_io.specs.Fields.{fields}
use Rattle.plain_io.proofs.Fields.{fields_put, line_put}

-- its number and its name, and what shows it
pub refused_put : {E : Type 0} (begun number name : List ℕ) (values : List (List ℕ)) (r : Result (List ℕ) E) → begun ≡ codes "refused" ++ fields (number ∷ name ∷ [])
    → IfOk r (λ text. text ≡ begun ++ fields values ++ 10 ∷ []) → IfOk r (λ text. text ≡ line (refused_words number name values))
refused_put begun number name values (Err e) start end = tt
refused_put begun number name values (Ok text) start end =
    let shown = fields_put [] begun (begun ++ fields values) (codes "refused") (number ∷ name ∷ []) values start refl in
    end ∙ line_put [] (begun ++ fields values) (codes "refused") (number ∷ name ∷ values) shown
