-- Words that ask to serve a map, and words that do not.
use Rattle.std.specs.Prelude.{IfSome}
use Rattle.std.proofs.Common.{◌≤◌, Bool, subst, ◌≡◌, ◌≢◌, ℕ, inl, inr, List, Option, Some, None, sym, ap, ◌∙◌, arith}
use Rattle.plain_io.specs.declared.files.Which.{Which}
use Rattle.plain_io.specs.Loads.{Told}
use Rattle.commands.specs.Outcomes.{status_of}
use Rattle.commands.specs.declared.outcome.Outcome.{Outcome}
use Rattle.journal_fold.specs.declared.fail.FoldFail.{FoldFail}
use Rattle.journal_fold.specs.declared.fail.FoldFail.TheVariants.{Entry, Long, Memory}
use Rattle.tgap_model.specs.Base.{BaseMap}
use Rattle.serving.specs.Serving.{ServeCommand, PutsOne, serve_words}
use Rattle.serving.specs.Journals.{fold_refusal, IsRefusedJournal, RefusesServing}
use Rattle.commands.proofs.Statuses.{usage_apart}

module _ (words : List (List ℕ)) (s : ServeCommand) where
  pub unserved : None ≡ serve_words words → serve_words words ≡ Some s → ⊥
  unserved none some = let clash : None ≡ Some s = none ∙ some in cc

  pub is_served : Some s ≡ serve_words words → serve_words words ≡ None → ⊥
  is_served some none = let clash : Some s ≡ None = some ∙ none in cc

  -- what they ask for is one thing
  pub same_command : (a : ServeCommand) → Some s ≡ serve_words words → serve_words words ≡ Some a → a ≡ s
  same_command a some asked = let same : Some s ≡ Some a = some ∙ asked in cc

-- a journal that comes to no versions is refused with another status than that of words that are no command
fold_status : (fail : FoldFail) → 4 ≤ status_of (fold_refusal fail)
fold_status (Entry place) = omega arith
fold_status (Long batches) = omega arith
fold_status Memory = omega arith

-- so is each journal that is refused
journal_status : (versions : ℕ) (name : List ℕ) (told : Bool) (held : List ℕ → List ℕ) (rose : Type 0) (m : BaseMap) (o : Outcome)
    → IsRefusedJournal versions name told held rose m o → 3 ≤ status_of o
journal_status versions name told held rose m o (inl fault) = let e = ap status_of fault.0 in omega (arith, e)
journal_status versions name told held rose m o (inr (inl long)) = let e = ap status_of long.0 in omega (arith, e)
journal_status versions name told held rose m o (inr (inr bad)) =
    let e = ap status_of bad.2.2 in let four = fold_status bad.2.0 in omega (arith, e, four)

-- they are a command
pub two_apart : (c : ServeCommand) (files : Which → List ℕ → Told) (rose : Which → Type 0) (told : Bool) (held : List ℕ → List ℕ) (disk_rose : Type 0)
    (old new : Option (List ℕ)) (status : ℕ) → status ≡ 2
    → (status ≢ 0 → status ≢ 6 → status ≢ 8 → PutsOne (RefusesServing c files rose told held disk_rose) old new status) → ⊥
two_apart c files rose told held disk_rose old new status two other =
    let h = other (λ e. omega (arith, two, e)) (λ e. omega (arith, two, e)) (λ e. omega (arith, two, e)) in
    elim h.1 [
      | inl (inl load) ↦ omega (arith, two, h.2.0, ap status_of load.2)
      | inl (inr (inl memory)) ↦ omega (arith, two, h.2.0, ap status_of memory)
      | inl (inr (inr found)) ↦ usage_apart h.0 (sym h.2.0 ∙ two) found.4
      | inr (m, loaded, inl memory) ↦ omega (arith, two, h.2.0, ap status_of memory)
      | inr (m, loaded, inr (name, same, why)) ↦
          let three = journal_status c.versions name told held disk_rose m h.0 why in omega (arith, two, h.2.0, three)
    ]

-- what is known of the command that the words are
pub of_command : (words : List (List ℕ)) (c : ServeCommand) (P : ServeCommand → Type 0) → Some c ≡ serve_words words → IfSome (serve_words words) P → P c
of_command words c P same holds = subst (λ (o : Option ServeCommand). IfSome o P) (sym same) holds
