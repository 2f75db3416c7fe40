-- What each status says, from the outcome that was put. Nothing here depends on which commands there are.
use Rattle.std.proofs.Common.{◌≡◌, ◌≢◌, ℕ, ◌≤◌, ◌⊎◌, inl, inr, List, [], ◌∷◌, length, Option, Some, None, Contains, refl, sym, ap, ◌∙◌, subst, arith}
use Rattle.plain_io.specs.declared.files.Which.{Which}
use Rattle.plain_io.specs.Loads.{Told, OfFile}
use Rattle.plain_io.specs.Puts.{Appends}
use Rattle.tgap_model.specs.Faults.{Rises}
use Rattle.tgap_model.specs.declared.fault.MapFault.{MapFault}
use Rattle.commands.specs.declared.outcome.Misfit.{Misfit}
use Rattle.commands.specs.declared.outcome.Outcome.{Outcome}
use Rattle.commands.specs.declared.outcome.Outcome.TheVariants.{Done, Usage, LoadFault, Refused, StepTooHigh, NotCoarser, OutOfMemory, PortFault, Unfit, JournalFault, BadEntry, LongJournal}
use Rattle.commands.specs.Outcomes.{status_of, text_of, load_fault_text, not_coarser, TakesMemory, IsOfFiles}
use Rattle.commands.specs.Delivery.{Delivers}
use Rattle.commands.specs.Command.{Command}
use Rattle.commands.specs.MapFile.{Contents, FileName}
use Rattle.commands.specs.Commands.{command, files_of, Says, outcome_of}
use Rattle.commands.specs.Answers.{Answers, AnswersCommand, IsReached, KeepCounts, LeavesKind, MayHold, MissesOne, PutsAnswer, files_for}
use Rattle.commands.proofs.Loads.{reached_is_named}

-- ---- outcomes by status

pub done_status : (o : Outcome) → status_of o ≡ 0 → (text : List ℕ) × (o ≡ Done text)
done_status (Done text) e = (text, refl)
done_status Usage e = absurd (omega arith)
done_status (LoadFault which) e = absurd (omega arith)
done_status (Refused fault) e = absurd (omega arith)
done_status (StepTooHigh steps) e = absurd (omega arith)
done_status (NotCoarser from to) e = absurd (omega arith)
done_status OutOfMemory e = absurd (omega arith)
done_status PortFault e = absurd (omega arith)
done_status (Unfit misfit) e = absurd (omega arith)
done_status JournalFault e = absurd (omega arith)
done_status (BadEntry place) e = absurd (omega arith)
done_status (LongJournal batches) e = absurd (omega arith)

-- a journal is refused with this status too, and that comes of none of the files
refused_status : (o : Outcome) → status_of o ≡ 4 → IsOfFiles o → (fault : MapFault) × (o ≡ Refused fault)
refused_status (Done text) e h = absurd (omega arith)
refused_status Usage e h = absurd h
refused_status (LoadFault which) e h = absurd h
refused_status (Refused fault) e h = (fault, refl)
refused_status (StepTooHigh steps) e h = absurd (omega arith)
refused_status (NotCoarser from to) e h = absurd (omega arith)
refused_status OutOfMemory e h = absurd h
refused_status PortFault e h = absurd h
refused_status (Unfit misfit) e h = absurd (omega arith)
refused_status JournalFault e h = absurd h
refused_status (BadEntry place) e h = absurd h
refused_status (LongJournal batches) e h = absurd h

above_status : (o : Outcome) → status_of o ≡ 5 → ((steps : ℕ) × (o ≡ StepTooHigh steps)) ⊎ ((steps : ℕ × ℕ) × (o ≡ not_coarser steps))
above_status (Done text) e = absurd (omega arith)
above_status Usage e = absurd (omega arith)
above_status (LoadFault which) e = absurd (omega arith)
above_status (Refused fault) e = absurd (omega arith)
above_status (StepTooHigh steps) e = inl (steps, refl)
above_status (NotCoarser from to) e = inr ((from, to), refl)
above_status OutOfMemory e = absurd (omega arith)
above_status PortFault e = absurd (omega arith)
above_status (Unfit misfit) e = absurd (omega arith)
above_status JournalFault e = absurd (omega arith)
above_status (BadEntry place) e = absurd (omega arith)
above_status (LongJournal batches) e = absurd (omega arith)

unfit_status : (o : Outcome) → status_of o ≡ 9 → (misfit : Misfit) × (o ≡ Unfit misfit)
unfit_status (Done text) e = absurd (omega arith)
unfit_status Usage e = absurd (omega arith)
unfit_status (LoadFault which) e = absurd (omega arith)
unfit_status (Refused fault) e = absurd (omega arith)
unfit_status (StepTooHigh steps) e = absurd (omega arith)
unfit_status (NotCoarser from to) e = absurd (omega arith)
unfit_status OutOfMemory e = absurd (omega arith)
unfit_status PortFault e = absurd (omega arith)
unfit_status (Unfit misfit) e = (misfit, refl)
unfit_status JournalFault e = absurd (omega arith)
unfit_status (BadEntry place) e = absurd (omega arith)
unfit_status (LongJournal batches) e = absurd (omega arith)

pub usage_apart : (o : Outcome) → status_of o ≡ 2 → IsOfFiles o → ⊥
usage_apart (Done text) e h = omega arith
usage_apart Usage e h = h
usage_apart (LoadFault which) e h = h
usage_apart (Refused fault) e h = omega arith
usage_apart (StepTooHigh steps) e h = omega arith
usage_apart (NotCoarser from to) e h = omega arith
usage_apart OutOfMemory e h = h
usage_apart PortFault e h = h
usage_apart (Unfit misfit) e h = omega arith
usage_apart JournalFault e h = h
usage_apart (BadEntry place) e h = h
usage_apart (LongJournal batches) e h = h

port_status : (o : Outcome) → status_of o ≡ 8 → o ≡ PortFault
port_status (Done text) e = absurd (omega arith)
port_status Usage e = absurd (omega arith)
port_status (LoadFault which) e = absurd (omega arith)
port_status (Refused fault) e = absurd (omega arith)
port_status (StepTooHigh steps) e = absurd (omega arith)
port_status (NotCoarser from to) e = absurd (omega arith)
port_status OutOfMemory e = absurd (omega arith)
port_status PortFault e = refl
port_status (Unfit misfit) e = absurd (omega arith)
port_status JournalFault e = absurd (omega arith)
port_status (BadEntry place) e = absurd (omega arith)
port_status (LongJournal batches) e = absurd (omega arith)

six_apart : (o : Outcome) → status_of o ≡ 6 → ⊥
six_apart (Done text) e = omega arith
six_apart Usage e = omega arith
six_apart (LoadFault which) e = omega arith
six_apart (Refused fault) e = omega arith
six_apart (StepTooHigh steps) e = omega arith
six_apart (NotCoarser from to) e = omega arith
six_apart OutOfMemory e = omega arith
six_apart PortFault e = omega arith
six_apart (Unfit misfit) e = omega arith
six_apart JournalFault e = omega arith
six_apart (BadEntry place) e = omega arith
six_apart (LongJournal batches) e = omega arith

-- what comes of the files has another status than a failed load or want of memory
files_status : (o : Outcome) → IsOfFiles o → (status_of o ≢ 3) × (status_of o ≢ 7)
files_status (Done text) h = (λ e. omega (arith, e), λ e. omega (arith, e))
files_status Usage h = absurd h
files_status (LoadFault which) h = absurd h
files_status (Refused fault) h = (λ e. omega (arith, e), λ e. omega (arith, e))
files_status (StepTooHigh steps) h = (λ e. omega (arith, e), λ e. omega (arith, e))
files_status (NotCoarser from to) h = (λ e. omega (arith, e), λ e. omega (arith, e))
files_status OutOfMemory h = absurd h
files_status PortFault h = absurd h
files_status (Unfit misfit) h = (λ e. omega (arith, e), λ e. omega (arith, e))
files_status JournalFault h = absurd h
files_status (BadEntry place) h = absurd h
files_status (LongJournal batches) h = absurd h

-- ---- the outcome of words, by what they ask for

by_command : (words : List (List ℕ)) (told : Which → List ℕ → Told) (rose : Which → Type 0) (o : Outcome) (asked : Option Command) → command words ≡ asked
    → Answers words told rose o → ((command words ≡ None) × (o ≡ Usage)) ⊎ ((c : Command) × (command words ≡ Some c) × AnswersCommand c told rose o)
by_command words told rose o None e h = let u : o ≡ Usage = rw e at h in inl (e, u)
by_command words told rose o (Some c) e h = let a : AnswersCommand c told rose o = rw e at h in inr (c, e, a)

-- of a file that is missing there are no contents
none_held : (told : Which → List ℕ → Told) (names : List FileName) (files : Contents) → MissesOne told names → MayHold told names files → ⊥
none_held told [] files m h = m
none_held told (n ∷ names) files (inl missing) h = subst (λ (t : Told). OfFile t (λ bytes. files n.which ≡ bytes)) missing h.0
none_held told (n ∷ names) files (inr (bytes, holds, fits, later)) h =
    let same : files n.which ≡ bytes = subst (λ (t : Told). OfFile t (λ held. files n.which ≡ held)) holds h.0 in
    none_held told names files later (h.1 (subst (λ (held : List ℕ). length held ≤ n.max) (sym same) fits))

-- What is put for these words: an outcome of them, the counts of faults that it leaves, and its text.
pub record Put (words : List (List ℕ)) (told : Which → List ℕ → Told) (rose : Which → Type 0) (before now : Which → ℕ)
    (old new : Option (List ℕ)) (sunk sinks status : ℕ) : Type 0 where
  pub outcome : Outcome
  pub answers : Answers words told rose outcome
  pub counts : KeepCounts (files_for (command words)) before now (λ kind. outcome ≡ LoadFault kind)
  pub delivers : Delivers outcome old new sunk sinks status

-- where memory was wanting for the text of an outcome, it is put that memory was wanting
pub put_is : (words : List (List ℕ)) (told : Which → List ℕ → Told) (rose : Which → Type 0) (before now : Which → ℕ)
    (old new : Option (List ℕ)) (sunk sinks status : ℕ) (o : Outcome) → Answers words told rose o
    → KeepCounts (files_for (command words)) before now (λ kind. o ≡ LoadFault kind)
    → Delivers o old new sunk sinks status ⊎ (TakesMemory o × Delivers OutOfMemory old new sunk sinks status)
    → Put words told rose before now old new sunk sinks status
put_is words told rose before now old new sunk sinks status o a k (inl d) = record { outcome = o; answers = a; counts = k; delivers = d }
put_is words told rose before now old new sunk sinks status o a k (inr d) = record {
  outcome = OutOfMemory;
  answers = wanting (command words) refl;
  counts = λ kind. elim (k kind) [
    | inl same ↦ inl same
    | inr failed ↦ absurd (subst TakesMemory failed.3 d.0)
  ];
  delivers = d.1;
}
  where
    wanting : (asked : Option Command) → command words ≡ asked → Answers words told rose OutOfMemory
    wanting asked e = elim (by_command words told rose o (command words) refl a) [
      | inl none ↦ absurd (subst TakesMemory none.1 d.0)
      | inr some ↦ rw some.1 (inr (inl refl))
    ]

module _ {words : List (List ℕ)} {told : Which → List ℕ → Told} {rose : Which → Type 0} {before now : Which → ℕ}
    {old new : Option (List ℕ)} {sunk sinks status : ℕ} (p : Put words told rose before now old new sunk sinks status) where
  -- the words are no command, or one that answers so
  cases : ((command words ≡ None) × (p.outcome ≡ Usage)) ⊎ ((c : Command) × (command words ≡ Some c) × AnswersCommand c told rose p.outcome)
  cases = by_command words told rose p.outcome (command words) refl p.answers

  -- but for status 6 the outcome was put whole
  whole : status ≢ 6 → (status ≡ status_of p.outcome) × Appends old new (text_of p.outcome)
  whole other = elim p.delivers [ inl d ↦ (d.0, d.1) | inr d ↦ absurd (other d.0) ]

  status_is : (n : ℕ) → n ≢ 6 → status ≡ n → status_of p.outcome ≡ n
  status_is n not_six e = sym (whole (λ six. not_six (sym e ∙ six))).0 ∙ e

  -- with a status that is none of words, loads, puts or memory it comes of the files
  of_files : (n : ℕ) → status ≡ n → n ≢ 2 → n ≢ 3 → n ≢ 6 → n ≢ 7 → IsOfFiles p.outcome
  of_files n s not_two not_three not_six not_seven =
      let is = status_is n not_six s in
      elim cases [
        | inl none ↦ absurd (not_two (sym is ∙ ap status_of none.1))
        | inr (c, asked, inl load) ↦ absurd (not_three (sym is ∙ ap status_of load.2))
        | inr (c, asked, inr (inl memory)) ↦ absurd (not_seven (sym is ∙ ap status_of memory))
        | inr (c, asked, inr (inr held)) ↦ held.4
      ]

  -- what an outcome of this form says of the files, where it is none of words, loads or memory
  puts : {A : Type 0} (make : A → Outcome) (n : ℕ) (x : A) → p.outcome ≡ make x → status ≡ n → n ≢ 2 → n ≢ 3 → n ≢ 6 → n ≢ 7
      → PutsAnswer words told old new make
  puts make n x e s not_two not_three not_six not_seven =
      let is = status_is n not_six s in
      elim cases [
        | inl none ↦ absurd (not_two (sym is ∙ ap status_of none.1))
        | inr (c, asked, inl load) ↦ absurd (not_three (sym is ∙ ap status_of load.2))
        | inr (c, asked, inr (inl memory)) ↦ absurd (not_seven (sym is ∙ ap status_of memory))
        | inr (c, asked, inr (inr held)) ↦ (
          c,
          asked,
          (
            held.0,
            held.1,
            (
              x,
              subst (λ (o : Outcome). Says c held.0 o) e held.2,
              subst (λ (o : Outcome). Appends old new (text_of o)) e (whole (λ six. not_six (sym s ∙ six))).1,
            ),
          ),
        )
      ]

  pub zero_says : status ≡ 0 → PutsAnswer words told old new Done
  zero_says e =
      let d = done_status p.outcome (status_is 0 (λ t. omega (arith, t)) e) in
      puts Done 0 d.0 d.1 e (λ t. omega (arith, t)) (λ t. omega (arith, t)) (λ t. omega (arith, t)) (λ t. omega (arith, t))

  pub two_says : status ≡ 2 → command words ≡ None
  two_says e =
      let is = status_is 2 (λ t. omega (arith, t)) e in
      elim cases [
        | inl none ↦ none.0
        | inr (c, asked, inl load) ↦ absurd (omega (arith, is, ap status_of load.2))
        | inr (c, asked, inr (inl memory)) ↦ absurd (omega (arith, is, ap status_of memory))
        | inr (c, asked, inr (inr held)) ↦ absurd (usage_apart p.outcome is held.4)
      ]

  pub four_says : status ≡ 4 → PutsAnswer words told old new Refused
  four_says e =
      let held = of_files 4 e (λ t. omega (arith, t)) (λ t. omega (arith, t)) (λ t. omega (arith, t)) (λ t. omega (arith, t)) in
      let d = refused_status p.outcome (status_is 4 (λ t. omega (arith, t)) e) held in
      puts Refused 4 d.0 d.1 e (λ t. omega (arith, t)) (λ t. omega (arith, t)) (λ t. omega (arith, t)) (λ t. omega (arith, t))

  pub five_says : status ≡ 5 → PutsAnswer words told old new StepTooHigh ⊎ PutsAnswer words told old new not_coarser
  five_says e = elim (above_status p.outcome (status_is 5 (λ t. omega (arith, t)) e)) [
    | inl d ↦ inl (puts StepTooHigh 5 d.0 d.1 e (λ t. omega (arith, t)) (λ t. omega (arith, t)) (λ t. omega (arith, t)) (λ t. omega (arith, t)))
    | inr d ↦ inr (puts not_coarser 5 d.0 d.1 e (λ t. omega (arith, t)) (λ t. omega (arith, t)) (λ t. omega (arith, t)) (λ t. omega (arith, t)))
  ]

  pub nine_says : status ≡ 9 → PutsAnswer words told old new Unfit
  nine_says e =
      let d = unfit_status p.outcome (status_is 9 (λ t. omega (arith, t)) e) in
      puts Unfit 9 d.0 d.1 e (λ t. omega (arith, t)) (λ t. omega (arith, t)) (λ t. omega (arith, t)) (λ t. omega (arith, t))

  pub none_says : command words ≡ None → (status ≡ 2) ⊎ (status ≡ 6)
  none_says e = elim p.delivers [
    | inr d ↦ inr d.0
    | inl d ↦ elim cases [
      | inl none ↦ inl (d.0 ∙ ap status_of none.1)
      | inr some ↦ absurd (let clash : None ≡ Some some.0 = sym e ∙ some.1 in cc)
    ]
  ]

  -- the load of the file that is named is the first one that failed
  pub first_says : status ≡ 3 → (c : Command) × (command words ≡ Some c)
      × ((n : FileName) × IsReached told (files_of c) n × rose n.which × Appends old new (load_fault_text n.which))
  first_says e =
      let is = status_is 3 (λ t. omega (arith, t)) e in
      elim cases [
        | inl none ↦ absurd (omega (arith, is, ap status_of none.1))
        | inr (c, asked, inl load) ↦
            (c, asked, (load.0, load.1, load.3, subst (λ (o : Outcome). Appends old new (text_of o)) load.2 (whole (λ six. omega (arith, e, six))).1))
        | inr (c, asked, inr (inl memory)) ↦ absurd (omega (arith, is, ap status_of memory))
        | inr (c, asked, inr (inr held)) ↦ absurd ((files_status p.outcome held.4).0 is)
      ]

  pub three_says : status ≡ 3 → (c : Command) × (command words ≡ Some c)
      × ((n : FileName) × Contains (files_of c) n × rose n.which × Appends old new (load_fault_text n.which))
  three_says e =
      let f = first_says e in
      let load = f.2 in
      (f.0, f.1, (load.0, reached_is_named told (files_of f.0) load.0 load.1, load.2, load.3))

  pub missing_says : (c : Command) → command words ≡ Some c → MissesOne told (files_of c) → (status ≡ 3) ⊎ ((status ≡ 6) ⊎ (status ≡ 7))
  missing_says c asked missing = elim p.delivers [
    | inr d ↦ inr (inl d.0)
    | inl d ↦ elim cases [
      | inl none ↦ absurd (let clash : None ≡ Some c = sym none.0 ∙ asked in cc)
      | inr (b, found, inl load) ↦ inl (d.0 ∙ ap status_of load.2)
      | inr (b, found, inr (inl memory)) ↦ inr (inr (d.0 ∙ ap status_of memory))
      | inr (b, found, inr (inr held)) ↦
          (let same : Some c ≡ Some b = sym asked ∙ found in
          let one : c ≡ b = cc in
          absurd (none_held told (files_of b) held.0 (subst (λ (a : Command). MissesOne told (files_of a)) one missing) held.1))
    ]
  ]

  pub exact_says : (c : Command) → command words ≡ Some c → status ≢ 3 → status ≢ 6 → status ≢ 7
      → (files : Contents) × MayHold told (files_of c) files × ((status ≡ status_of (outcome_of c files)) × Appends old new (text_of (outcome_of c files)))
  exact_says c asked not_three not_six not_seven =
      let w = whole not_six in
      elim cases [
        | inl none ↦ absurd (let clash : None ≡ Some c = sym none.0 ∙ asked in cc)
        | inr (b, found, inl load) ↦ absurd (not_three (w.0 ∙ ap status_of load.2))
        | inr (b, found, inr (inl memory)) ↦ absurd (not_seven (w.0 ∙ ap status_of memory))
        | inr (b, found, inr (inr held)) ↦
            (let same : Some c ≡ Some b = sym asked ∙ found in
            let one : b ≡ c = cc in
            subst (λ (a : Command). (files : Contents) × MayHold told (files_of a) files
            × ((status ≡ status_of (outcome_of a files)) × Appends old new (text_of (outcome_of a files)))) one
            (held.0, held.1, (w.0 ∙ ap status_of held.3, subst (λ (o : Outcome). Appends old new (text_of o)) held.3 w.1)))
      ]

  pub counts_say : status ≢ 3 → status ≢ 6 → (kind : Which) → now kind ≡ before kind
  counts_say not_three not_six kind = elim (p.counts kind) [
    | inl same ↦ same
    | inr failed ↦ absurd (not_three ((whole not_six).0 ∙ ap status_of failed.3))
  ]

  pub kinds_say : (kind : Which) → LeavesKind (files_for (command words)) kind → now kind ≡ before kind
  kinds_say kind leaves = elim (p.counts kind) [ inl same ↦ same | inr failed ↦ absurd (leaves failed.0 failed.1 failed.2) ]

  pub answered_says : (o : Outcome) × Answers words told rose o × Delivers o old new sunk sinks status
  answered_says = (p.outcome, p.answers, p.delivers)

  pub six_says : status ≡ 6 → Rises sunk sinks
  six_says e = elim p.delivers [ inr d ↦ d.2 | inl d ↦ absurd (six_apart p.outcome (sym d.0 ∙ e)) ]

  pub sink_stays : status ≢ 6 → sinks ≡ sunk
  sink_stays other = elim p.delivers [ inl d ↦ d.2 | inr d ↦ absurd (other d.0) ]

  pub eight_apart : status ≡ 8 → ⊥
  eight_apart e =
      let is = status_is 8 (λ t. omega (arith, t)) e in
      elim cases [
        | inl none ↦ omega (arith, is, ap status_of none.1)
        | inr (c, asked, inl load) ↦ omega (arith, is, ap status_of load.2)
        | inr (c, asked, inr (inl memory)) ↦ omega (arith, is, ap status_of memory)
        | inr (c, asked, inr (inr held)) ↦ subst IsOfFiles (port_status p.outcome is) held.4
      ]
