-- The versions that were made so far: the last of them, and their numbers.
use Rattle.std.proofs.Common.{◌≡◌, ◌⊎◌, inl, inr, ◌<◌, ◌+◌, ◌-◌, ℕ, suc, List, [], ◌∷◌, ◌++◌, length, take, get_or, slice_get, Some, None, refl, sym, ap, ◌∙◌, subst, arith}
use Rattle.std.proofs.lemmas.Bool.{cases_lt}
use Rattle.std.proofs.lemmas.List.{length_push, map-append, map_more, get_or_push, get_or_append_left}
use Rattle.std.proofs.lemmas.Option.{slice_get-get_or, slice_get_within, get_or_from_slice_get}
use Rattle.std.specs.Arc.{arc_value}
use Rattle.std.specs.declared.sync.Arc.{Arc}
use Rattle.std.specs.declared.alloc.Global.{Global}
use Rattle.edit_journal.specs.declared.entry.Entry.{Entry}
use Rattle.edit_journal.specs.Told.{all_kept}
use Rattle.tgap_model.specs.Base.{BaseMap}
use Rattle.map_version.specs.declared.version.Version.{Version}
use Rattle.journal_fold.specs.declared.fail.FoldFail.{FoldFail}
use Rattle.journal_fold.specs.declared.fail.FoldFail.TheVariants as fail
use Rattle.journal_fold.specs.JournalFolds.{map_after, maps_from, batch_at, batches_at, TellsPlace}
use Rattle.journal_fold.specs.Made.{values, maps_of, made_by, newest, AreNext}
use Rattle.journal_fold.proofs.EntrySteps.{batch_of, next_made, stop_told}
use Rattle.journal_fold.proofs.MapSteps.{Making, making_start}

-- ---- the last version

pub newest_push : {X : Type 0} → (first : X) (xs : List X) (x : X) → newest first (xs ++ x ∷ []) ≡ x
newest_push first [] x = refl
newest_push first (y ∷ xs) x = newest_push y xs x

newest_at : {X : Type 0} → (first : X) (xs : List X) → slice_get (first ∷ xs) (length xs) ≡ Some (newest first xs)
newest_at first [] = refl
newest_at first (x ∷ xs) = newest_at x xs

last_place : (n : ℕ) → suc n - 1 ≡ n
last_place n = omega arith

some_same : {X : Type 0} → (x y : X) → Some x ≡ Some y → x ≡ y
some_same x y is = cc

pub newest_some : (first : Version) (versions : List (Arc Version Global)) (last : Arc Version Global)
    → slice_get versions (length versions - 1) ≡ Some last → newest first (values versions) ≡ arc_value last
newest_some first [] last is = absurd cc
newest_some first (v ∷ versions) last is =
    let here : slice_get (v ∷ versions) (length versions) ≡ Some last = ap (slice_get (v ∷ versions)) (sym (last_place (length versions))) ∙ is in
    newest_value v versions last here
  where
    newest_value : (v : Arc Version Global) (versions : List (Arc Version Global)) (last : Arc Version Global)
        → slice_get (v ∷ versions) (length versions) ≡ Some last → newest (arc_value v) (values versions) ≡ arc_value last
    newest_value v [] last is = ap arc_value (some_same v last is)
    newest_value v (w ∷ versions) last is = newest_value w versions last is

pub newest_none : (first : Version) (versions : List (Arc Version Global)) → slice_get versions (length versions - 1) ≡ None
    → newest first (values versions) ≡ first
newest_none first [] is = refl
newest_none first (v ∷ versions) is =
    absurd (no v versions (ap (slice_get (v ∷ versions)) (sym (last_place (length versions))) ∙ is))
  where
    no : (v : Arc Version Global) (versions : List (Arc Version Global)) → slice_get (v ∷ versions) (length versions) ≡ None → ⊥
    no v [] is = cc
    no v (w ∷ versions) is = no w versions is

-- ---- the numbers

pub next_start : AreNext []
next_start place v is = absurd cc

pub newest_number : (first : Version) (versions : List Version) → first.number ≡ 0 → AreNext versions → (newest first versions).number ≡ length versions
newest_number first [] none next = none
newest_number first (v ∷ versions) none next =
    let is : (newest v versions).number ≡ length versions + 1 = next (length versions) (newest v versions) (newest_at v versions) in omega (arith, is)

pub next_push : (versions : List Version) (v : Version) → AreNext versions → v.number ≡ length versions + 1 → AreNext (versions ++ v ∷ [])
next_push versions v next is place w at = elim (cases_lt place (length versions)) [
  | inl inside ↦
      next place w (slice_get-get_or versions place w inside
      ∙ ap (λ (x : Version). Some x) (sym (get_or_append_left versions (v ∷ []) w place inside) ∙ get_or_from_slice_get (versions ++ v ∷ []) place w w at))
  | inr past ↦
      let within : place < length versions + 1 = subst (λ (n : ℕ). place < n) (length_push versions v) (slice_get_within (versions ++ v ∷ []) place w at) in
      let here : length versions ≡ place = omega arith in
      let same : v ≡ w = sym (get_or_push versions v w place here) ∙ get_or_from_slice_get (versions ++ v ∷ []) place w w at in
      ap (λ (x : Version). x.number) (sym same) ∙ is ∙ ap (λ (n : ℕ). n + 1) here
]

-- ---- one version after the other

-- The batches of the first i places have made these versions, of which the last one stands next.
pub record Versions (first : Version) (entries : List Entry) (places : List ℕ) (i : ℕ) (versions : List Version) : Type 0 where
  pub making : Making (all_kept entries) first.built places i (maps_of versions) (newest first versions).built
  pub batches : made_by versions ≡ batches_at (all_kept entries) (take i places)
  pub numbers : AreNext versions

pub versions_start : (first : Version) (entries : List Entry) (places : List ℕ) → Versions first entries places 0 []
versions_start first entries places = record { making = making_start (all_kept entries) first.built places; batches = refl; numbers = next_start }

module _ (first : Version) (entries : List Entry) (places : List ℕ) (i : ℕ) (versions : List Version) (pinned : Version)
    (made : Versions first entries places i versions) (same : pinned ≡ newest first versions) (none : first.number ≡ 0) where
  pub pinned_number : pinned.number ≡ length versions
  pinned_number = ap (λ (v : Version). v.number) same ∙ newest_number first versions none made.numbers

  module _ (x : Entry) (within : i < length places) (inside : get_or places i 0 < length entries) (is : x ≡ get_or entries (get_or places i 0) x) where
    -- the batch of the next place makes a version
    pub versions_next : (v : Version) → map_after pinned.built x.batch ≡ Some v.built → v.batch ≡ x.batch → v.number ≡ pinned.number + 1
        → Versions first entries places (i + 1) (versions ++ v ∷ [])
    versions_next v makes batch number =
        let kept = all_kept entries in
        let next =
        next_made entries first.built places i (maps_of versions) (newest first versions).built pinned.built x made.making
        (ap (λ (w : Version). w.built) same) within inside is v.built makes in record {
          making =
              subst (λ (maps : List BaseMap). Making kept first.built places (i + 1) maps (newest first (versions ++ v ∷ [])).built)
              (sym (map-append (λ (w : Version). w.built) versions (v ∷ [])))
              (subst (λ (w : Version). Making kept first.built places (i + 1) (maps_of versions ++ v.built ∷ []) w.built)
              (sym (newest_push first versions v)) next);
          batches =
              map-append (λ (w : Version). w.batch) versions (v ∷ [])
              ∙ ap (λ (l : List (List ℕ)). l ++ v.batch ∷ []) made.batches
              ∙ ap (λ (b : List ℕ). batches_at kept (take i places) ++ b ∷ []) (batch ∙ sym (batch_of entries (get_or places i 0) x inside is))
              ∙ sym (map_more (batch_at kept) places i 0 within);
          numbers = next_push versions v made.numbers (number ∙ ap (λ (n : ℕ). n + 1) pinned_number);
        }

    -- it makes none, or memory is wanted
    pub versions_stop : (why : FoldFail) → (why ≡ fail.Memory) ⊎ ((why ≡ fail.Entry (get_or places i 0)) × (map_after pinned.built x.batch ≡ None))
        → TellsPlace (maps_from 0 first.built (batches_at (all_kept entries) places)) places why
    versions_stop why stop =
        stop_told entries first.built places i (maps_of versions) (newest first versions).built pinned.built x made.making
        (ap (λ (w : Version). w.built) same) within inside is why stop
