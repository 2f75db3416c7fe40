-- How the facts that a journal keeps go on.
use Rattle.std.proofs.Common.{◌≡◌, ℕ, ◌+◌, Bool, true, false, cond, nat_lt, List, [], ◌∷◌, ◌++◌, length, sum_by, Option, Some, None, is_none, option_map, inl, inr, refl, ◌∙◌, ap, subst}
use Rattle.std.proofs.lemmas.List.{append-nil, map-append}
use Rattle.std.proofs.lemmas.List.Sums.{sum_by_push}
use Rattle.edit_journal.specs.declared.entry.Entry.{Entry}
use Rattle.tgap_model.specs.Keeping.{KeptEntry, Kept, IsStart}
use Rattle.edit_journal.specs.Entries.{entry_size, entries_of}
use Rattle.edit_journal.specs.Images.{IsLeft, IsWithOrWithout}
use Rattle.edit_journal.specs.Journals.{IsOf, doubting}
use Rattle.edit_journal.specs.Told.{kept_of, all_kept, doubted}
use Rattle.edit_journal.proofs.Rest.{settled_end}

-- where no entry is in doubt
pub none_doubted : (doubt : Option Entry) → is_none (option_map kept_of doubt) ≡ true → doubted doubt ≡ []
none_doubted None sure = refl
none_doubted (Some e) sure = absurd (cc)

pub sure_left : (most : ℕ) (entries : List Entry) (doubt : Option Entry) (image : List ℕ) → is_none (option_map kept_of doubt) ≡ true → IsLeft most (all_kept entries) (doubted doubt) image → IsLeft most (all_kept entries) [] image
sure_left most entries doubt image sure left = subst (λ (ds : List KeptEntry). IsLeft most (all_kept entries) ds image) (none_doubted doubt sure) left

-- the entries of a journal in which none is in doubt, and the place where they end
pub sure_entries : (most : ℕ) (entries : List Entry) (doubt : Option Entry) (image : List ℕ) → is_none (option_map kept_of doubt) ≡ true → IsLeft most (all_kept entries) (doubted doubt) image → entries_of image ≡ (all_kept entries, sum_by entry_size (all_kept entries))
sure_entries most entries doubt image sure left = settled_end most (all_kept entries) image (sure_left most entries doubt image sure left)

-- with the entry in doubt or without
pub starts_with_doubt : (held : Kept) (e : KeptEntry) (found : List KeptEntry) → IsWithOrWithout held.entries (e ∷ []) found → IsStart (doubting held e) found
starts_with_doubt held e found either = by_length (nat_lt (length held.entries) (length found)) either
  where
    by_length : (longer : Bool) → found ≡ held.entries ++ cond longer (e ∷ []) [] → IsStart (doubting held e) found
    by_length true is = inr (e, refl, is)
    by_length false is = inl (is ∙ append-nil held.entries)

pub image_starts : (most : ℕ) (held : Kept) (e : KeptEntry) (image : List ℕ) → IsLeft most held.entries (e ∷ []) image → IsOf (doubting held e) image
image_starts most held e image left = starts_with_doubt held e (entries_of image).0 left.has

-- what a crash leaves of a journal has its entries, with the one in doubt or without
pub left_starts : (most : ℕ) (entries : List Entry) (doubt : Option Entry) (image : List ℕ) → IsLeft most (all_kept entries) (doubted doubt) image
    → IsStart (record { entries = all_kept entries; doubt = option_map kept_of doubt }) (entries_of image).0
left_starts most entries None image left = inl (ap (λ (p : List KeptEntry × ℕ). p.0) (settled_end most (all_kept entries) image left))
left_starts most entries (Some e) image left = image_starts most (record { entries = all_kept entries; doubt = None }) (kept_of e) image left

-- one entry more, and the place where the entries end then
pub more_kept : (entries : List Entry) (entry : Entry) → all_kept (entries ++ entry ∷ []) ≡ all_kept entries ++ kept_of entry ∷ []
more_kept entries entry = map-append kept_of entries (entry ∷ [])

pub more_sized : (entries : List Entry) (entry : Entry) → sum_by entry_size (all_kept (entries ++ entry ∷ [])) ≡ sum_by entry_size (all_kept entries) + (13 + length entry.batch)
more_sized entries entry = ap (sum_by entry_size) (more_kept entries entry) ∙ sum_by_push entry_size (all_kept entries) (kept_of entry)
