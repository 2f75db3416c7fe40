-- The places of the entries that are left: their batches are those that the entries come to, and each is above the one before it.
use Rattle.std.proofs.Common.{◌≡◌, ◌<◌, ◌+◌, ◌-◌, ℕ, zero, suc, List, [], ◌∷◌, ◌++◌, length, take, drop, fold, get_or, All, AllPairs, refl, sym, ap, ◌∙◌, subst, arith}
use Rattle.std.proofs.lemmas.List.{drop-drop, map-append, take-map, length-take, get_or-take}
use Rattle.std.proofs.lemmas.List.Elements.{All-append, All-take}
use Rattle.std.proofs.lemmas.List.Quantifiers.{all_pairs_push}
use Rattle.tgap_model.specs.Keeping.{KeptEntry, fold_entry, folded}
use Rattle.journal_fold.specs.JournalFolds.{with_place, places_after, places_of, batch_at, batches_at}

-- ---- the batches at the places

-- the entry at the front of what is left
batch_here : (all : List KeptEntry) (i : ℕ) (e : KeptEntry) (rest : List KeptEntry) → drop i all ≡ e ∷ rest → batch_at all i ≡ e.batch
batch_here [] zero e rest is = absurd cc
batch_here [] (suc i) e rest is = absurd cc
batch_here (x ∷ all) zero e rest is = let same : x ≡ e = cc in ap (λ (k : KeptEntry). k.batch) same
batch_here (x ∷ all) (suc i) e rest is = batch_here all i e rest is

rest_here : (all : List KeptEntry) (i : ℕ) (e : KeptEntry) (rest : List KeptEntry) → drop i all ≡ e ∷ rest → drop (i + 1) all ≡ rest
rest_here all i e rest is = sym (drop-drop 1 i all) ∙ ap (drop 1) is

-- one more place is one more batch
batches_next : (all : List KeptEntry) (i : ℕ) (places : List ℕ) (batches : List (List ℕ)) (e : KeptEntry) → batch_at all i ≡ e.batch
    → batches_at all places ≡ batches → batches_at all (with_place places e i) ≡ fold_entry batches e
batches_next all i places batches e here are =
    map-append (batch_at all) (take (e.number - 1) places) (i ∷ [])
    ∙ ap (λ (l : List (List ℕ)). l ++ batch_at all i ∷ []) (sym (take-map (batch_at all) (e.number - 1) places) ∙ ap (take (e.number - 1)) are)
    ∙ ap (λ (b : List ℕ). take (e.number - 1) batches ++ b ∷ []) here

batches_go : (all : List KeptEntry) (i : ℕ) (places : List ℕ) (batches : List (List ℕ)) (rest : List KeptEntry) → drop i all ≡ rest
    → batches_at all places ≡ batches → batches_at all (places_after i places rest) ≡ fold fold_entry batches rest
batches_go all i places batches [] left are = are
batches_go all i places batches (e ∷ rest) left are =
    batches_go all (i + 1) (with_place places e i) (fold_entry batches e) rest (rest_here all i e rest left)
    (batches_next all i places batches e (batch_here all i e rest left) are)

-- the batches at the places are those that the entries come to
pub batches_are : (entries : List KeptEntry) → batches_at entries (places_of entries) ≡ folded entries
batches_are entries = batches_go entries 0 [] [] entries refl refl

-- ---- the places

-- they ascend, and are below i
pub record Rise (i : ℕ) (places : List ℕ) : Type 0 where
  pub ascend : AllPairs (λ (before after : ℕ). before < after) places
  pub below : All (λ (place : ℕ). place < i) places

take_ascends : (places : List ℕ) (k : ℕ) → AllPairs (λ (before after : ℕ). before < after) places
    → AllPairs (λ (before after : ℕ). before < after) (take k places)
take_ascends places k up a b d before within =
    let l = length-take k places in
    let at_a = get_or-take k places a d (omega (arith, l)) in
    let at_b = get_or-take k places b d (omega (arith, l)) in
    let less = up a b d before (omega (arith, l)) in omega (arith, at_a, at_b, less)

rise_next : (i k : ℕ) (places : List ℕ) → Rise i places → Rise (i + 1) (take k places ++ i ∷ [])
rise_next i k places rise =
    let few = All-take (λ (place : ℕ). place < i) k places rise.below in record {
      ascend = all_pairs_push (λ (before after : ℕ). before < after) (take k places) i (take_ascends places k rise.ascend) few;
      below = All-append (λ (place : ℕ). place < i + 1) (take k places) (i ∷ [])
          (λ a d within. let less = few a d within in omega (arith, less)) (λ a d within. one a d within);
    }
  where
    one : (a d : ℕ) → a < 1 → get_or (i ∷ []) a d < i + 1
    one zero d within = omega arith
    one (suc a) d within = absurd (omega (arith, within))

rise_go : (i : ℕ) (places : List ℕ) (entries : List KeptEntry) → Rise i places → Rise (i + length entries) (places_after i places entries)
rise_go i places [] rise = let same : i ≡ i + 0 = omega arith in subst (λ (n : ℕ). Rise n places) same rise
rise_go i places (e ∷ entries) rise =
    let same : i + 1 + length entries ≡ i + suc (length entries) = omega arith in
    subst (λ (n : ℕ). Rise n (places_after (i + 1) (with_place places e i) entries)) same
    (rise_go (i + 1) (with_place places e i) entries (rise_next i (e.number - 1) places rise))

-- they are places of entries, each above the one before it
pub places_rise : (entries : List KeptEntry) → Rise (length entries) (places_of entries)
places_rise entries =
    let same : 0 + length entries ≡ length entries = omega arith in
    subst (λ (n : ℕ). Rise n (places_of entries)) same
    (rise_go 0 [] entries (record { ascend = λ a b d before within. absurd (omega (arith, within)); below = λ a d within. absurd (omega (arith, within)) }))
