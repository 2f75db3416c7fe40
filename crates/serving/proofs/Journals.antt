-- What a map is served with: the versions that a journal comes to, and what the journal has at the end.
use Rattle.std.proofs.Common.{◌≡◌, ◌⊎◌, inl, inr, ℕ, ◌+◌, ◌≤◌, Bool, true, false, List, [], ◌∷◌, ◌++◌, length, take, drop, map, Option, Some, None, Result, Ok, Err, refl, sym, ap, ◌∙◌, subst, arith}
use Rattle.std.specs.Prelude.{if◌then◌else◌, nat_lt, option_map, IfSome, ◌<◌}
use Rattle.std.proofs.lemmas.Bool.{le-ltb}
use Rattle.std.proofs.Math.Seq.{take-length}
use Rattle.tgap_model.specs.Base.{BaseMap}
use Rattle.tgap_model.specs.Keeping.{KeptEntry, Kept, IsStart, folded, bad_entry, sure_of}
use Rattle.edit_journal.specs.declared.disk.Disk as OfDisk
use Rattle.edit_journal.specs.Entries.{entries_of}
use Rattle.edit_journal.specs.Journals.{IsOf, is_sure}
use Rattle.version_store.specs.Folds.{FitsFold, FitsKept, FitsTold}
use Rattle.version_store.proofs.Folds.{fits_start, fits_sure}
use Rattle.journal_fold.specs.declared.fail.FoldFail.{FoldFail}
use Rattle.journal_fold.specs.declared.fail.FoldFail.TheVariants.{Entry, Long, Memory}
use Rattle.session.specs.Versions.{Extends}
use Rattle.plain_io.specs.declared.link.Link as OfLink
use Rattle.plain_io.specs.Doors.{Connections}
use Rattle.tgap_model.specs.declared.fault.MapFault.TheVariants.{InputLong}
use Rattle.commands.specs.declared.outcome.Outcome.{Outcome}
use Rattle.commands.specs.declared.outcome.Outcome.TheVariants.{JournalFault, OutOfMemory, Refused}
use Rattle.commands.specs.Outcomes.{status_of}
use Rattle.serving.specs.Serving.{ServeCommand, IsStop, Serves, ServesAll}
use Rattle.serving.specs.Journals.{fold_refusal, HasAll, IsRefusedServing, IsServed, KeepsJournal, KeepsOn, MayHave}
use Rattle.serving.proofs.Servings.{IsPut, serves_all_on}
use Rattle.journal_fold.specs.JournalFolds.{journal_maps, maps_from, places_of, told_maps, unless_bad}

-- where no entry is in doubt
pub sure_is : (held : Kept) → is_sure held ≡ true → held ≡ sure_of held.entries
sure_is held sure = by held.doubt sure
  where
    by : (doubt : Option KeptEntry) → is_sure (record { entries = held.entries; doubt = doubt }) ≡ true
        → record { entries = held.entries; doubt = doubt } ≡ sure_of held.entries
    by None is = refl
    by (Some d) is = absurd cc

-- ---- where a journal comes to versions, each of its entries follows

none_bad : (bad : Option ℕ) (told : Result (List BaseMap) FoldFail) (maps : List BaseMap) → unless_bad bad told ≡ Ok maps → bad ≡ None
none_bad None told maps is = refl
none_bad (Some place) told maps is = absurd cc

pub follow_all : (limit : ℕ) (m : BaseMap) (entries : List KeptEntry) (maps : List BaseMap) → journal_maps limit m entries ≡ Ok maps → bad_entry entries ≡ None
follow_all limit m entries maps is = none_bad (bad_entry entries) (told_maps limit (places_of entries) (maps_from 0 m (folded entries))) maps is

-- and these batches are all that its entries come to
pub fits_all : (entries : List KeptEntry) (batches : List (List ℕ)) → batches ≡ folded entries → bad_entry entries ≡ None → FitsFold batches entries
fits_all entries batches are follow =
    subst (λ (b : List (List ℕ)). FitsFold b entries) (sym are) (take-length (folded entries), omega arith, follow)

-- what is told of a keeper over a journal that is sure
pub fits_told : (told : Bool) (held : Kept) (batches : List (List ℕ)) → is_sure held ≡ true → FitsFold batches held.entries
    → FitsTold batches (if told then Some held else None)
fits_told false held batches sure fits kept is = absurd cc
fits_told true held batches sure fits kept is =
    let same : held ≡ kept = cc in
    subst (FitsKept batches) (sym (sure_is held sure) ∙ same) (fits_sure held.entries batches fits)

-- ---- no journal comes to no versions

abbrev unless_few : Bool → Result (List BaseMap) FoldFail
unless_few is = if is then Err (Long 0) else Ok []

pub none_come : (limit : ℕ) (m : BaseMap) → 1 ≤ limit → journal_maps limit m [] ≡ Ok []
none_come limit m some = ap unless_few (le-ltb limit 1 some)

-- ---- what the journal has at the end

-- a disk that came back has all batches that its journal was told to keep
pub has_all : {D : Type 0} (disk : OfDisk.Ghosts D) (returned : Option D) (d : D) (held : Kept) (batches : List (List ℕ)) → returned ≡ Some d
    → disk.told d ≡ true → ((image : List ℕ) → disk.may_leave d image → IsOf held image)
    → FitsTold batches (if disk.told d then Some held else None) → HasAll disk returned batches
has_all disk returned d held batches back told leaves fits = (
  d,
  back,
  told,
  λ image left. fits_start batches held (entries_of image).0 (fits held (ap (λ (t : Bool). if t then Some held else None) told)) (leaves image left),
)

-- ---- what is served

module _ {G L D : Type 0} (closed : G → Bool) (faults : G → ℕ) (told : G → Option (Connections L)) (link : OfLink.Ghosts L) (back : List G → Type 0)
    (c : ServeCommand) (disk : OfDisk.Ghosts D) (disks_told : Bool) (held : List ℕ → List ℕ) (returned : Option D) (m : BaseMap) (status : ℕ) where
  -- without a journal there are no entries
  pub none_served : (later : List BaseMap) (start : List (List ℕ)) (keeper : Option Kept) → c.journal ≡ None → 1 ≤ c.versions → later ≡ [] → start ≡ [] ∷ []
      → ServesAll closed faults told link back c.workers c.versions (m ∷ later) (KeepsOn start keeper) status
      → IsServed closed faults told link back c disk disks_told held returned m status
  none_served later start keeper none some empty first all = (
    record {
      entries = [];
      read = subst (λ (j : Option (List ℕ)). MayHave j disks_told held []) (sym none) refl;
      maps = [];
      come_to = none_come c.versions m some;
    },
    serves_all_on closed faults told link back back c.workers c.workers c.versions c.versions (m ∷ later) (m ∷ []) (KeepsOn start keeper)
        (KeepsJournal disk c.journal disks_told returned []) status (λ doors b. b) refl refl (ap (λ (maps : List BaseMap). m ∷ maps) empty)
        (λ batches kept. (
          subst (λ (s : List (List ℕ)). Extends s batches) first kept.0,
          subst (λ (j : Option (List ℕ)). IfSome j (λ name. disks_told ≡ true → HasAll disk returned (drop 1 batches))) (sym none) tt,
        )) all,
  )

  -- with a journal its entries come to the versions after the first
  pub some_served : (told_then : Bool) (name : List ℕ) (entries : List KeptEntry) (maps : List BaseMap) → c.journal ≡ Some name → told_then ≡ disks_told
      → (disks_told ≡ true → (entries ≡ (entries_of (held name)).0) × (length (held name) ≤ 67108864))
      → journal_maps c.versions m entries ≡ Ok maps
      → ServesAll closed faults told link back c.workers c.versions (m ∷ maps)
      (λ batches. Extends ([] ∷ folded entries) batches × (told_then ≡ true → HasAll disk returned (drop 1 batches))) status
      → IsServed closed faults told link back c disk disks_told held returned m status
  some_served told_then name entries maps is same read come_to all = (
    record {
      entries = entries;
      read = subst (λ (j : Option (List ℕ)). MayHave j disks_told held entries) (sym is) read;
      maps = maps;
      come_to = come_to;
    },
    serves_all_on closed faults told link back back c.workers c.workers c.versions c.versions (m ∷ maps) (m ∷ maps)
        (λ batches. Extends ([] ∷ folded entries) batches × (told_then ≡ true → HasAll disk returned (drop 1 batches)))
        (KeepsJournal disk c.journal disks_told returned entries) status (λ doors b. b) refl refl refl
        (λ batches kept. (
          kept.0,
          subst (λ (j : Option (List ℕ)). IfSome j (λ name. disks_told ≡ true → HasAll disk returned (drop 1 batches))) (sym is)
              (λ told. kept.1 (same ∙ told)),
        )) all,
  )

-- ---- what is refused

-- why a journal is not opened, and whether a disk failed
abbrev pub IsNotOpened : List ℕ → Bool → (List ℕ → List ℕ) → Type 0 → Type 0 → Outcome → Type 0
IsNotOpened name told held rose kept o =
    ((o ≡ OutOfMemory) × kept)
    ⊎ (((o ≡ JournalFault) × rose)
    ⊎ ((o ≡ Refused (InputLong 67108864)) × kept × (told ≡ true → 67108864 < length (held name))))

pub open_stops : (name : List ℕ) (told : Bool) (held : List ℕ → List ℕ) (rose kept : Type 0) (o : Outcome) → IsNotOpened name told held rose kept o → IsStop o
open_stops name told held rose kept o (inl p) = inr (inr (ap status_of p.0))
open_stops name told held rose kept o (inr (inl p)) = inl (ap status_of p.0)
open_stops name told held rose kept o (inr (inr p)) = inr (inl (ap status_of p.0))

pub open_refused : (c : ServeCommand) (name : List ℕ) (told : Bool) (held : List ℕ → List ℕ) (rose kept : Type 0) (m : BaseMap) (o : Outcome)
    → c.journal ≡ Some name → IsNotOpened name told held rose kept o → IsRefusedServing c told held rose m o
open_refused c name told held rose kept m o is (inl p) = inl p.0
open_refused c name told held rose kept m o is (inr (inl p)) = inr (name, is, inl p)
open_refused c name told held rose kept m o is (inr (inr p)) = inr (name, is, inr (inl (p.0, p.2)))

-- what is put where the status is 4
put_four : (o : Outcome) (told told' : Option (List ℕ)) (sunk sunk' status : ℕ) → IsPut o told told' sunk sunk' status → status ≡ 4 → status_of o ≡ 4
put_four o told told' sunk sunk' status (inl (inl d)) four = sym d.0 ∙ four
put_four o told told' sunk sunk' status (inl (inr d)) four = absurd (omega (arith, d.0, four))
put_four o told told' sunk sunk' status (inr (takes, inl d)) four = absurd (omega (arith, d.0, four))
put_four o told told' sunk sunk' status (inr (takes, inr d)) four = absurd (omega (arith, d.0, four))

pub open_kept : (name : List ℕ) (told : Bool) (held : List ℕ → List ℕ) (rose kept : Type 0) (o : Outcome) (was now : Option (List ℕ)) (sunk sunk' status : ℕ)
    → IsNotOpened name told held rose kept o → IsPut o was now sunk sunk' status → status ≡ 4 → kept
open_kept name told held rose kept o was now sunk sunk' status (inl p) put four = p.1
open_kept name told held rose kept o was now sunk sunk' status (inr (inl p)) put four =
    let s = put_four o was now sunk sunk' status put four in let three = ap status_of p.0 in absurd (omega (arith, s, three))
open_kept name told held rose kept o was now sunk sunk' status (inr (inr p)) put four = p.1

-- why a journal gives no versions
abbrev pub GivesNone : ℕ → BaseMap → List KeptEntry → FoldFail → Type 0
GivesNone limit m entries why = (why ≡ Memory) ⊎ (journal_maps limit m entries ≡ Err why)

pub fold_stops : (why : FoldFail) (o : Outcome) → o ≡ fold_refusal why → IsStop o
fold_stops (Entry place) o is = inr (inl (ap status_of is))
fold_stops (Long batches) o is = inr (inl (ap status_of is))
fold_stops Memory o is = inr (inr (ap status_of is))

pub fold_refused : (limit : ℕ) (m : BaseMap) (entries : List KeptEntry) (why : FoldFail) (o : Outcome) → GivesNone limit m entries why → o ≡ fold_refusal why
    → (o ≡ OutOfMemory) ⊎ ((w : FoldFail) × (journal_maps limit m entries ≡ Err w) × (o ≡ fold_refusal w))
fold_refused limit m entries why o (inl memory) is = inl (is ∙ ap fold_refusal memory)
fold_refused limit m entries why o (inr told) is = inr (why, told, is)

-- the same of a journal that may have these entries
pub none_refused : (c : ServeCommand) (name : List ℕ) (told : Bool) (held : List ℕ → List ℕ) (rose : Type 0) (m : BaseMap) (entries : List KeptEntry) (o : Outcome)
    → c.journal ≡ Some name → (told ≡ true → (entries ≡ (entries_of (held name)).0) × (length (held name) ≤ 67108864))
    → (o ≡ OutOfMemory) ⊎ ((w : FoldFail) × (journal_maps c.versions m entries ≡ Err w) × (o ≡ fold_refusal w)) → IsRefusedServing c told held rose m o
none_refused c name told held rose m entries o is read (inl memory) = inl memory
none_refused c name told held rose m entries o is read (inr why) = inr (name, is, inr (inr (entries, read, why)))

-- what is served has another status than what is refused
pub four_apart : {D : Type 0} (first : List ℕ) (Back : List D → Type 0) (Served : Type 0) (count count' : ℕ) (told told' : Option (List ℕ))
    (sunk sunk' status : ℕ) → Serves first Back Served count count' told told' sunk sunk' status (λ o. o ≡ OutOfMemory) → status ≡ 4 → ⊥
four_apart first Back Served count count' told told' sunk sunk' status s four =
    let h = s.other (λ e. omega (arith, four, e)) (λ e. omega (arith, four, e)) (λ e. omega (arith, four, e)) in
    omega (arith, four, h.2.0, ap status_of h.1)
