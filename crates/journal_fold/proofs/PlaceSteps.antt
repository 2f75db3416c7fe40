-- The fold over the entries, an entry at a time: which places it has so far, and which entry does not follow.
use Rattle.std.proofs.Common.{◌≡◌, ◌<◌, ◌≤◌, ◌+◌, ◌-◌, ◌||◌, inl, inr, min, ℕ, zero, suc, Bool, true, false, eqb, nat_lt, List, [], ◌∷◌, ◌++◌, length, take, drop, get_or, if◌then◌else◌, Some, None, refl, sym, ap, ◌∙◌, arith}
use Rattle.std.proofs.lemmas.Bool.{cases_lt, ne_eqb, le-ltb, lt-ltb}
use Rattle.std.proofs.lemmas.List.{drop_more, drop_all, length-append, length-take}
use Rattle.tgap_model.specs.Keeping.{KeptEntry, fold_entry, is_bad_entry, bad_entry_from, bad_entry}
use Rattle.edit_journal.specs.declared.entry.Entry.{Entry}
use Rattle.edit_journal.specs.Told.{kept_of, all_kept}
use Rattle.journal_fold.specs.JournalFolds.{places_after, places_of}

-- ---- whether an entry follows

follows : (batches : List (List ℕ)) (e : KeptEntry) → 1 ≤ e.number → e.number ≤ length batches + 1 → is_bad_entry batches e ≡ false
follows batches e some few =
    ap (λ (is : Bool). is || nat_lt (length batches + 1) e.number) (ne_eqb e.number 0 (λ none. omega (arith, some, none)))
    ∙ le-ltb (length batches + 1) e.number few

or_true : (a : Bool) → (a || true) ≡ true
or_true true = refl
or_true false = refl

none_or_above : (n count : ℕ) → ¬ ((1 ≤ n) × (n ≤ count + 1)) → (eqb n 0 || nat_lt (count + 1) n) ≡ true
none_or_above zero count never = refl
none_or_above (suc n) count never =
    let above : nat_lt (count + 1) (suc n) ≡ true = lt-ltb (count + 1) (suc n) (elim (cases_lt (count + 1) (suc n)) [ inl h ↦ h | inr h ↦ absurd (never (omega arith, h)) ]) in
    ap (λ (is : Bool). eqb (suc n) 0 || is) above ∙ or_true (eqb (suc n) 0)

follows_not : (batches : List (List ℕ)) (e : KeptEntry) → ¬ ((1 ≤ e.number) × (e.number ≤ length batches + 1)) → is_bad_entry batches e ≡ true
follows_not batches e never = none_or_above e.number (length batches) never

-- ---- the fold

-- the entry at this place, and those after it
pub kept_rest : (entries : List Entry) (i : ℕ) (x : Entry) → i < length entries → get_or entries i x ≡ x
    → all_kept (drop i entries) ≡ kept_of x ∷ all_kept (drop (i + 1) entries)
kept_rest entries i x within is =
    ap all_kept (drop_more entries i x within) ∙ ap (λ (e : Entry). kept_of e ∷ all_kept (drop (i + 1) entries)) is

-- So many entries are folded, and these are their places. The rest of the entries gives all places, and the first that does not
-- follow.
pub record Folding (entries : List Entry) (i : ℕ) (places : List ℕ) : Type 0 where
  pub left : places_after i places (all_kept (drop i entries)) ≡ places_of (all_kept entries)
  pub batches : List (List ℕ)
  pub count : length batches ≡ length places
  pub bad : bad_entry_from i batches (all_kept (drop i entries)) ≡ bad_entry (all_kept entries)

pub folding_start : (entries : List Entry) → Folding entries 0 []
folding_start entries = record { left = refl; batches = []; count = refl; bad = refl }

-- the length after one more
count_next : {X Y : Type 0} → (k : ℕ) (xs : List X) (ys : List Y) (x : X) (y : Y) → length xs ≡ length ys
    → length (take k xs ++ x ∷ []) ≡ length (take k ys ++ y ∷ [])
count_next k xs ys x y same =
    length-append (take k xs) (x ∷ []) ∙ ap (λ (n : ℕ). n + 1) (length-take k xs ∙ ap (min k) same ∙ sym (length-take k ys))
    ∙ sym (length-append (take k ys) (y ∷ []))

-- an entry that follows
pub folding_next : (entries : List Entry) (i : ℕ) (places new : List ℕ) (x : Entry) → Folding entries i places → i < length entries
    → get_or entries i x ≡ x → (1 ≤ x.number) × (x.number ≤ length places + 1) → new ≡ take (x.number - 1) places ++ i ∷ []
    → Folding entries (i + 1) new
folding_next entries i places new x f within is good made =
    let rest = kept_rest entries i x within is in
    let ok = follows f.batches (kept_of x) good.0 (omega (arith, f.count, good.1)) in record {
      left =
          ap (λ (l : List ℕ). places_after (i + 1) l (all_kept (drop (i + 1) entries))) made ∙ ap (places_after i places) (sym rest) ∙ f.left;
      batches = fold_entry f.batches (kept_of x);
      count = count_next (x.number - 1) f.batches places x.batch i f.count ∙ sym (ap length made);
      bad =
          ap (λ (is : Bool). if is then Some i else bad_entry_from (i + 1) (fold_entry f.batches (kept_of x)) (all_kept (drop (i + 1) entries))) (sym ok)
          ∙ ap (bad_entry_from i f.batches) (sym rest) ∙ f.bad;
    }

-- an entry that does not
pub folding_bad : (entries : List Entry) (i : ℕ) (places : List ℕ) (x : Entry) → Folding entries i places → i < length entries
    → get_or entries i x ≡ x → ¬ ((1 ≤ x.number) × (x.number ≤ length places + 1)) → bad_entry (all_kept entries) ≡ Some i
folding_bad entries i places x f within is never =
    let rest = kept_rest entries i x within is in
    let bad = follows_not f.batches (kept_of x) (λ good. never (good.0, omega (arith, f.count, good.1))) in
    sym f.bad ∙ ap (bad_entry_from i f.batches) rest
    ∙ ap (λ (is : Bool). if is then Some i else bad_entry_from (i + 1) (fold_entry f.batches (kept_of x)) (all_kept (drop (i + 1) entries))) bad

-- all entries
pub folding_end : (entries : List Entry) (i : ℕ) (places : List ℕ) → Folding entries i places → length entries ≤ i
    → (places ≡ places_of (all_kept entries)) × (bad_entry (all_kept entries) ≡ None)
folding_end entries i places f all =
    let none : all_kept (drop i entries) ≡ [] = ap all_kept (drop_all i entries all) in
    (ap (places_after i places) (sym none) ∙ f.left, sym f.bad ∙ ap (bad_entry_from i f.batches) none)
