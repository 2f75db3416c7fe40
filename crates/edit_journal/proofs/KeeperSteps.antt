-- What a keeper over a journal tells after a call.
use Rattle.std.proofs.Common.{◌≡◌, ℕ, ◌<◌, Bool, true, false, cond, List, [], ◌∷◌, ◌++◌, Option, Some, None, is_none, Result, Ok, Err, MatchOption, inl, inr, ⊎_elim, refl, ◌∙◌, ap}
use Rattle.std.proofs.lemmas.Bool.{cases_lt}
use Rattle.tgap_model.specs.declared.keep.KeepFail.{KeepFail}
use Rattle.tgap_model.specs.declared.keep.KeepFail.TheVariants.{Failed, Full, Memory}
use Rattle.tgap_model.specs.Keeping.{KeptEntry, Kept, IsStart, sure_of, keep_size, Keeps, KeepsFrom}
use Rattle.edit_journal.specs.Journals.{is_sure, doubting}

-- a list that a call may have started from, and what is kept then
abbrev pub Started : Kept → Kept → KeptEntry → Result (Unit {0}) KeepFail → Type 0
Started before now e result = (start : List KeptEntry) × IsStart before start × KeepsFrom (Some 67108864) start before now e result

pub told_keeps : (was is : Bool) (before now : Kept) (e : KeptEntry) (result : Result (Unit {0}) KeepFail) → is ≡ was → (was ≡ true → Started before now e result)
    → MatchOption (cond was (Some before) None) (cond is (Some now) None ≡ None) (λ b. Keeps (Some 67108864) b (cond is (Some now) None) e result)
told_keeps true is before now e result same starts =
    let s : Started before now e result = starts refl in
    (s.0, s.1, (now, ap (λ (t : Bool). cond t (Some now) None) same, s.2))
told_keeps false is before now e result same starts = ap (λ (t : Bool). cond t (Some now) None) same

-- the journal was not settled
pub started_refused : (before now : Kept) (e : KeptEntry) (fail : KeepFail) → now ≡ before → ((most : ℕ) → fail ≡ Full most → ⊥) → Started before now e (Err fail)
started_refused before now e Failed same none = (before.entries, inl refl, inl same)
started_refused before now e (Full most) same none = absurd (none most refl)
started_refused before now e Memory same none = (before.entries, inl refl, inl same)

sure_is : (held : Kept) → is_sure held ≡ true → held ≡ sure_of held.entries
sure_is held sure = λ i. record { entries = held.entries; doubt = none_is held.doubt sure i }
  where
    none_is : (doubt : Option KeptEntry) → is_none doubt ≡ true → doubt ≡ None
    none_is None is = refl
    none_is (Some d) is = absurd (cc)

module _ (before settled now : Kept) (e : KeptEntry) (start : IsStart before settled.entries) where
  pub started_ok : (x : Unit {0}) → now ≡ sure_of (settled.entries ++ e ∷ []) → (67108864 < keep_size settled.entries e → ⊥) → Started before now e (Ok x)
  started_ok x is fits = (settled.entries, start, (is, ⊎_elim (λ above. absurd (fits above)) (λ within. within) (cases_lt 67108864 (keep_size settled.entries e))))

  pub started_failed : now ≡ doubting settled e → Started before now e (Err Failed)
  started_failed is = (settled.entries, start, inr is)

  pub started_full : (most : ℕ) → is_sure settled ≡ true → now ≡ settled → 67108864 < keep_size settled.entries e → Started before now e (Err (Full most))
  started_full most sure is above = (settled.entries, start, (inr (is ∙ sure_is settled sure), (67108864, refl, above)))

  pub started_memory : is_sure settled ≡ true → now ≡ settled → Started before now e (Err Memory)
  started_memory sure is = (settled.entries, start, inr (is ∙ sure_is settled sure))
