-- The maps that batches make, step by step, and what a journal gives once they are known.
use Rattle.std.proofs.Common.{◌≡◌, ◌<◌, ◌≤◌, ◌+◌, ℕ, Bool, List, [], ◌∷◌, ◌++◌, length, drop, get_or, slice_index, if◌then◌else◌, Option, Some, None, Result, Ok, Err, refl, sym, ap, ◌∙◌, append_assoc, arith}
use Rattle.std.proofs.lemmas.Bool.{le-ltb, lt-ltb}
use Rattle.std.proofs.lemmas.List.{append-nil, drop_more, drop_all}
use Rattle.tgap_model.specs.Base.{BaseMap}
use Rattle.tgap_model.specs.Keeping.{KeptEntry, folded, bad_entry}
use Rattle.journal_fold.specs.declared.fail.FoldFail.TheVariants.{Entry, Long}
use Rattle.journal_fold.specs.JournalFolds.{map_after, prepended, with_map, maps_from, places_of, batch_at, batches_at, told_maps, journal_maps}

-- ---- a batch

-- the rest of the maps, after one more
prepended_more : (made : List BaseMap) (m : BaseMap) (rest : Result (List BaseMap) ℕ)
    → prepended made (prepended (m ∷ []) rest) ≡ prepended (made ++ m ∷ []) rest
prepended_more made m (Ok rest) = ap (λ (maps : List BaseMap). Ok maps) (sym (append_assoc made (m ∷ []) rest))
prepended_more made m (Err i) = refl

-- a batch that makes a map
pub maps_next : (i : ℕ) (made : List BaseMap) (m next : BaseMap) (batch : List ℕ) (batches : List (List ℕ)) → map_after m batch ≡ Some next
    → prepended made (maps_from i m (batch ∷ batches)) ≡ prepended (made ++ next ∷ []) (maps_from (i + 1) next batches)
maps_next i made m next batch batches is =
    ap (λ (o : Option BaseMap). prepended made (with_map i o (λ e. maps_from (i + 1) e batches))) is
    ∙ prepended_more made next (maps_from (i + 1) next batches)

-- a batch that makes none
pub maps_stop : (i : ℕ) (made : List BaseMap) (m : BaseMap) (batch : List ℕ) (batches : List (List ℕ)) → map_after m batch ≡ None
    → prepended made (maps_from i m (batch ∷ batches)) ≡ Err i
maps_stop i made m batch batches is = ap (λ (o : Option BaseMap). prepended made (with_map i o (λ e. maps_from (i + 1) e batches))) is

-- no batch
pub maps_start : (rest : Result (List BaseMap) ℕ) → prepended [] rest ≡ rest
maps_start (Ok rest) = refl
maps_start (Err i) = refl

pub maps_end : (i : ℕ) (made : List BaseMap) (m : BaseMap) → prepended made (maps_from i m []) ≡ Ok made
maps_end i made m = ap (λ (maps : List BaseMap). Ok maps) (append-nil made)

-- there are as many maps as batches
maps_count : (rest : Result (List BaseMap) ℕ) (maps : List BaseMap) (m : BaseMap) (n : ℕ) → prepended (m ∷ []) rest ≡ Ok maps
    → ((some : List BaseMap) → rest ≡ Ok some → length some ≡ n) → length maps ≡ n + 1
maps_count (Ok rest) maps m n is all = let same : m ∷ rest ≡ maps = cc in sym (ap length same) ∙ (let l = all rest refl in omega (arith, l))
maps_count (Err i) maps m n is all = absurd cc

count_step : (i : ℕ) (o : Option BaseMap) (batches : List (List ℕ)) (maps : List BaseMap)
    → ((m : BaseMap) (some : List BaseMap) → maps_from (i + 1) m batches ≡ Ok some → length some ≡ length batches)
    → with_map i o (λ e. maps_from (i + 1) e batches) ≡ Ok maps → length maps ≡ length batches + 1
count_step i None batches maps all is = absurd cc
count_step i (Some m) batches maps all is = maps_count (maps_from (i + 1) m batches) maps m (length batches) is (all m)

pub maps_length : (i : ℕ) (m : BaseMap) (batches : List (List ℕ)) (maps : List BaseMap) → maps_from i m batches ≡ Ok maps → length maps ≡ length batches
maps_length i m [] maps is = let same : [] ≡ maps = cc in sym (ap length same)
maps_length i m (batch ∷ batches) maps is =
    let l = count_step i (map_after m batch) batches maps (λ e some. maps_length (i + 1) e batches some) is in omega (arith, l)

-- ---- what a journal gives

module _ (limit : ℕ) (m : BaseMap) (entries : List KeptEntry) (places : List ℕ) (placed : places ≡ places_of entries) where
  -- an entry does not follow
  pub bad_given : (place : ℕ) → bad_entry entries ≡ Some place → journal_maps limit m entries ≡ Err (Entry place)
  bad_given place bad = rw bad refl

  pub told_given : (batches : List (List ℕ)) → batches ≡ folded entries → bad_entry entries ≡ None
      → journal_maps limit m entries ≡ told_maps limit places (maps_from 0 m batches)
  told_given batches are good = rw (good, placed, are) refl

-- there are not too many
pub few_told : (limit : ℕ) (places : List ℕ) (made : Result (List BaseMap) ℕ) (maps : List BaseMap) → made ≡ Ok maps → length maps < limit
    → told_maps limit places made ≡ Ok maps
few_told limit places made maps is few =
    ap (told_maps limit places) is
    ∙ ap (λ (over : Bool). if over then Err (Long (length maps)) else Ok maps) (le-ltb limit (length maps + 1) (omega (arith, few)))

-- there are too many
pub many_told : (limit : ℕ) (places : List ℕ) (made : Result (List BaseMap) ℕ) (maps : List BaseMap) → made ≡ Ok maps → limit ≤ length maps
    → told_maps limit places made ≡ Err (Long (length maps))
many_told limit places made maps is many =
    ap (told_maps limit places) is
    ∙ ap (λ (over : Bool). if over then Err (Long (length maps)) else Ok maps) (lt-ltb limit (length maps + 1) (omega (arith, many)))

-- a batch makes no map
pub place_told : (limit : ℕ) (places : List ℕ) (made : Result (List BaseMap) ℕ) (i : ℕ) → made ≡ Err i
    → told_maps limit places made ≡ Err (Entry (slice_index places i))
place_told limit places made i is = ap (told_maps limit places) is

-- ---- one batch after the other

-- The batches of so many places have made these maps, the last of which is the current one. The rest of the batches gives all maps, or
-- the first batch that makes none.
pub record Making (entries : List KeptEntry) (first : BaseMap) (places : List ℕ) (i : ℕ) (made : List BaseMap) (current : BaseMap) : Type 0 where
  pub left : prepended made (maps_from i current (batches_at entries (drop i places))) ≡ maps_from 0 first (batches_at entries places)

pub making_start : (entries : List KeptEntry) (first : BaseMap) (places : List ℕ) → Making entries first places 0 [] first
making_start entries first places = record { left = maps_start (maps_from 0 first (batches_at entries places)) }

module _ (entries : List KeptEntry) (first : BaseMap) (places : List ℕ) (i : ℕ) (made : List BaseMap) (current : BaseMap) (m : Making entries first places i made current) where
  -- the batch of the next place, and those after it
  batches_rest : (place : ℕ) → i < length places → get_or places i place ≡ place
      → batches_at entries (drop i places) ≡ batch_at entries place ∷ batches_at entries (drop (i + 1) places)
  batches_rest place within is =
      ap (batches_at entries) (drop_more places i place within)
      ∙ ap (λ (p : ℕ). batch_at entries p ∷ batches_at entries (drop (i + 1) places)) is

  pub making_next : (place : ℕ) (next : BaseMap) → i < length places → get_or places i place ≡ place → map_after current (batch_at entries place) ≡ Some next
      → Making entries first places (i + 1) (made ++ next ∷ []) next
  making_next place next within is makes = record {
    left =
        sym (maps_next i made current next (batch_at entries place) (batches_at entries (drop (i + 1) places)) makes)
        ∙ ap (λ (b : List (List ℕ)). prepended made (maps_from i current b)) (sym (batches_rest place within is)) ∙ m.left;
  }

  pub making_stop : (place : ℕ) → i < length places → get_or places i place ≡ place → map_after current (batch_at entries place) ≡ None
      → maps_from 0 first (batches_at entries places) ≡ Err i
  making_stop place within is none =
      sym m.left ∙ ap (λ (b : List (List ℕ)). prepended made (maps_from i current b)) (batches_rest place within is)
      ∙ maps_stop i made current (batch_at entries place) (batches_at entries (drop (i + 1) places)) none

  pub making_end : length places ≤ i → maps_from 0 first (batches_at entries places) ≡ Ok made
  making_end all =
      sym m.left ∙ ap (λ (p : List ℕ). prepended made (maps_from i current (batches_at entries p))) (drop_all i places all) ∙ maps_end i made current
