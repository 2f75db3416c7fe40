-- What a publish does to what is kept, by what the keeper answered.
use Rattle.std.proofs.Common.{◌≡◌, ℕ, List, Option, Some, None, Result, Ok, Err, MatchOption, IfErr, IsErrAnd, inl, refl, sym, subst}
use Rattle.tgap_model.specs.Keeping.{KeptEntry, Kept}
use Rattle.version_store.specs.declared.press.fail.PublishFail.{PublishFail}
use Rattle.version_store.specs.declared.press.fail.PublishFail.TheVariants as fail
use Rattle.version_store.specs.Keepers.{ComesOfList, PublishKeeps, PublishKeepsFrom}

-- what holds where the list of versions refuses holds of a refusal that is handed on
pub of_list : {S T : Type 0} (P : Result T PublishFail → Type 0) (told : Result S PublishFail) (r : Result T PublishFail) (e : PublishFail) → told ≡ Err e
    → IsErrAnd r (λ x. x ≡ e) → IfErr told ComesOfList → ((n : ℕ) → P (Err (fail.Stale n))) → ((n : ℕ) → P (Err (fail.VersionsFull n))) → P r
of_list {S} P told (Ok x) e was same of stale full = absurd same
of_list {S} P told (Err y) e was same of stale full =
    by y (subst ComesOfList (sym same) (subst (λ (t : Result S PublishFail). IfErr t ComesOfList) was of))
  where
    by : (z : PublishFail) → ComesOfList z → P (Err z)
    by (fail.Stale n) of' = stale n
    by (fail.VersionsFull n) of' = full n
    by fail.Unkept of' = absurd of'
    by (fail.KeeperFull n) of' = absurd of'
    by fail.Memory of' = absurd of'

-- what is kept before a publish and after it
abbrev pub HasPublished : {T : Type 0} → Option ℕ → KeptEntry → Option Kept → Option Kept → Result T PublishFail → Type 0
HasPublished limit e was told answer = MatchOption was (told ≡ None) (λ before. PublishKeeps limit before told e answer)

-- nothing changes where the list of versions refuses, and where the memory is wanting
pub has_kept_all : {T : Type 0} (limit : Option ℕ) (e : KeptEntry) (was : Option Kept) (r : Result T PublishFail)
    → ((start : List KeptEntry) (now : Kept) → PublishKeepsFrom limit start now now e r) → HasPublished limit e was was r
has_kept_all limit e None r all = refl
has_kept_all limit e (Some kept) r all = (kept.entries, inl refl, (kept, refl, all kept.entries kept))

pub listed_keeps : {S T : Type 0} (limit : Option ℕ) (e : KeptEntry) (was : Option Kept) (told : Result S PublishFail) (r : Result T PublishFail) (cause : PublishFail)
    → told ≡ Err cause → IsErrAnd r (λ x. x ≡ cause) → IfErr told ComesOfList → HasPublished limit e was was r
listed_keeps {S} {T} limit e was told r cause is same of =
    of_list (HasPublished limit e was was) told r cause is same of
    (λ n. has_kept_all {T = T} limit e was (Err (fail.Stale n)) (λ start now. refl))
    (λ n. has_kept_all {T = T} limit e was (Err (fail.VersionsFull n)) (λ start now. refl))

pub wanting_keeps : {T : Type 0} (limit : Option ℕ) (e : KeptEntry) (was : Option Kept) (r : Result T PublishFail) → IsErrAnd r (λ x. x ≡ fail.Memory)
    → HasPublished limit e was was r
wanting_keeps limit e was (Ok x) is = absurd is
wanting_keeps {T} limit e was (Err cause) is =
    subst (λ (x : PublishFail). HasPublished {T = T} limit e was was (Err x)) (sym is) (has_kept_all {T = T} limit e was (Err fail.Memory) (λ start now. inl refl))
