-- The entries as the code holds them and as they are told: their batches, and the places of those that are left.
use Rattle.std.proofs.Common.{◌≡◌, ◌⊎◌, inl, inr, ◌<◌, ◌+◌, ℕ, List, [], ◌∷◌, ◌++◌, length, get_or, unwrap_or, option_map, Option, Some, None, sym, ap, ◌∙◌, subst}
use Rattle.std.proofs.lemmas.List.{length-map, get_or_default}
use Rattle.std.proofs.lemmas.Option.{slice_get-map, slice_get-get_or}
use Rattle.edit_journal.specs.declared.entry.Entry.{Entry as Held}
use Rattle.edit_journal.specs.Told.{kept_of, all_kept}
use Rattle.tgap_model.specs.Base.{BaseMap}
use Rattle.tgap_model.specs.Keeping.{KeptEntry}
use Rattle.journal_fold.specs.declared.fail.FoldFail.{FoldFail}
use Rattle.journal_fold.specs.declared.fail.FoldFail.TheVariants.{Entry, Memory}
use Rattle.journal_fold.specs.JournalFolds.{map_after, maps_from, places_of, batch_at, batches_at, TellsPlace}
use Rattle.journal_fold.proofs.MapSteps.{Making, making_next, making_stop}
use Rattle.journal_fold.proofs.PlaceLaws.{Rise, places_rise}

-- the places are places of entries, and ascend
pub placed_rise : (entries : List Held) (places : List ℕ) → places ≡ places_of (all_kept entries) → Rise (length entries) places
placed_rise entries places are =
    subst (λ (l : List ℕ). Rise (length entries) l) (sym are)
    (subst (λ (n : ℕ). Rise n (places_of (all_kept entries))) (length-map entries kept_of) (places_rise (all_kept entries)))

pub batch_of : (entries : List Held) (place : ℕ) (x : Held) → place < length entries → x ≡ get_or entries place x
    → batch_at (all_kept entries) place ≡ x.batch
batch_of entries place x within is =
    ap (λ (o : Option KeptEntry). unwrap_or (option_map (λ (e : KeptEntry). e.batch) o) [])
    (slice_get-map kept_of entries place ∙ ap (option_map kept_of) (slice_get-get_or entries place x within ∙ ap (λ (e : Held). Some e) (sym is)))

-- The batches of the first i places have made maps, and x is the entry at the next one.
module _ (entries : List Held) (first : BaseMap) (places : List ℕ) (i : ℕ) (made : List BaseMap) (current base : BaseMap) (x : Held)
    (m : Making (all_kept entries) first places i made current) (same : base ≡ current) (within : i < length places)
    (inside : get_or places i 0 < length entries) (is : x ≡ get_or entries (get_or places i 0) x) where
  here : get_or places i (get_or places i 0) ≡ get_or places i 0
  here = get_or_default places i (get_or places i 0) 0 within

  makes : (next : Option BaseMap) → map_after base x.batch ≡ next → map_after current (batch_at (all_kept entries) (get_or places i 0)) ≡ next
  makes next made =
      ap (λ (b : List ℕ). map_after current b) (batch_of entries (get_or places i 0) x inside is)
      ∙ ap (λ (m : BaseMap). map_after m x.batch) (sym same) ∙ made

  -- its batch makes a map
  pub next_made : (next : BaseMap) → map_after base x.batch ≡ Some next
      → Making (all_kept entries) first places (i + 1) (made ++ next ∷ []) next
  next_made next makes_next =
      making_next (all_kept entries) first places i made current m (get_or places i 0) next within here (makes (Some next) makes_next)

  -- it makes none, or memory is wanted
  pub stop_told : (why : FoldFail) → (why ≡ Memory) ⊎ ((why ≡ Entry (get_or places i 0)) × (map_after base x.batch ≡ None))
      → TellsPlace (maps_from 0 first (batches_at (all_kept entries) places)) places why
  stop_told why (inl want) = inl want
  stop_told why (inr stop) =
      inr (i, making_stop (all_kept entries) first places i made current m (get_or places i 0) within here (makes None stop.1), stop.0)
