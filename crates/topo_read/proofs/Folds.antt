-- A state that each item of a list changes in turn, as a loop does it.
use Rattle.std.proofs.Common.{◌≡◌, ℕ, ◌+◌, ◌<◌, List, ◌∷◌, length, get_or, drop, map, Result, Ok, Err, sym, ap, ◌∙◌}
use Rattle.std.proofs.lemmas.List.{at_drop_more}
use Rattle.line_forms.specs.Lines.{◌>>=◌}
use Rattle.line_forms.specs.Json.{try_fold}

-- what is left begins with this item
left_begins : {A X : Type 0} (seen : X → A) (xs : List X) (i : ℕ) (x : X) → i < length xs → x ≡ get_or xs i x → map seen (drop i xs) ≡ seen x ∷ map seen (drop (i + 1) xs)
left_begins seen xs i x lt is = at_drop_more (map seen) xs i x lt ∙ ap (λ y. seen y ∷ map seen (drop (i + 1) xs)) (sym is)

-- an item more
pub fold_goes_on : {A X S F : Type 0} (seen : X → A) (step : S → A → Result S F) (state next : S) (xs : List X) (i : ℕ) (x : X) → i < length xs → x ≡ get_or xs i x → step state (seen x) ≡ Ok next
    → try_fold step next (map seen (drop (i + 1) xs)) ≡ try_fold step state (map seen (drop i xs))
fold_goes_on seen step state next xs i x lt is e = sym (ap (try_fold step state) (left_begins seen xs i x lt is) ∙ ap (λ r. r >>= λ s. try_fold step s (map seen (drop (i + 1) xs))) e)

-- the fault of an item
pub fold_stops : {A X S F : Type 0} (seen : X → A) (step : S → A → Result S F) (state : S) (fault : F) (xs : List X) (i : ℕ) (x : X) → i < length xs → x ≡ get_or xs i x → step state (seen x) ≡ Err fault
    → try_fold step state (map seen (drop i xs)) ≡ Err fault
fold_stops seen step state fault xs i x lt is e = ap (try_fold step state) (left_begins seen xs i x lt is) ∙ ap (λ r. r >>= λ s. try_fold step s (map seen (drop (i + 1) xs))) e
