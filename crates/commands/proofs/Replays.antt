-- What comes of the texts of a slice and of a packet, and of the files that hold them.
use Rattle.std.proofs.Common.{◌≡◌, ℕ, ◌≤◌, inl, inr, true, true≢false, Option, Some, None, List, [], ◌∷◌, length, Result, Ok, Err, refl, sym, ap, ap₂, ◌∙◌, subst, arith, lt-ltb, le-ltb}
use Rattle.std.specs.Prelude.{fold, is_none}
use Rattle.std.specs.Result.{IsErrAnd}
use Rattle.std.proofs.lemmas.Bool.{and_from, and_parts, cases_eq}
use Rattle.tgap_model.specs.declared.limits.TheConstants.{MAX_TEXT_BYTES}
use Rattle.tgap_model.specs.declared.failure.Or.{Or}
use Rattle.tgap_model.specs.declared.failure.Or.TheVariants.{Fault, Memory}
use Rattle.tgap_model.specs.declared.slice.Slice.{Slice}
use Rattle.tgap_model.specs.declared.record.StepRecord.{StepRecord}
use Rattle.tgap_model.specs.declared.record.Packet.{Packet}
use Rattle.tgap_model.specs.Records.{broken_rule, undo, replayed}
use Rattle.wire_text.specs.SliceTexts.{slice_text}
use Rattle.wire_text.specs.SliceReading.{IsSliceText, IsPacketText, slice_of_text, packet_of_text}
use Rattle.plain_io.specs.declared.files.Which.{Which}
use Rattle.plain_io.specs.declared.files.Which.TheVariants as kind
use Rattle.plain_io.specs.Loads.{Told, OfFile}
use Rattle.wire_text.specs.declared.row_reading.BadText.{BadText}
use Rattle.wire_text.specs.Reading.{bad_text}
use Rattle.wire_text.proofs.SliceLaws.{slice_again}
use Rattle.wire_text.proofs.PacketLaws.{packet_again}
use Rattle.client_replay.specs.declared.unfit.Unfit.{Unfit as Misfitting}
use Rattle.client_replay.specs.Replaying.{undone, outcome, Leaves}
use Rattle.client_replay.proofs.Replays.{some_never_none, other_step, own_step, first_fits}
use Rattle.record_laws.specs.PacketLaws.{each_fits}
use Rattle.commands.specs.declared.outcome.Misfit.TheVariants.{SliceLine, PacketLine, Rule}
use Rattle.commands.specs.declared.outcome.Outcome.{Outcome}
use Rattle.commands.specs.declared.outcome.Outcome.TheVariants.{Done, LoadFault, OutOfMemory, Unfit}
use Rattle.commands.specs.Outcomes.{IsOfFiles, replay_refusal}
use Rattle.commands.specs.Command.{Command}
use Rattle.commands.specs.Commands.{command}
use Rattle.commands.specs.MapFile.{Contents, FileName}
use Rattle.commands.specs.Answers.{Answering, Answers, AnswersCommand, Fetches, IsEither, KeepCounts, ReadsText, outcome_from}
use Rattle.commands.specs.Replay.{slice_file, packet_file, files_of_replay, LeadsOn, IsBroken, IsUnfit, SaysTexts, reached, texts_told, texts_outcome, SaysReplay, replay_outcome}
use Rattle.commands.proofs.Loads.{is_loaded, some_long}

-- ---- records one after the other

-- what the first record makes
abbrev from_first : Slice → StepRecord → List StepRecord → Option ℕ → Slice × Option Misfitting
from_first s r records o = elim o [ None ↦ undone (undo s r) records | Some rule ↦ (s, Some (record { step = r.step; rule = rule })) ]

-- where none stops them, all records fit
all_fit : (s : Slice) (records : List StepRecord) (t : Slice) → undone s records ≡ (t, None) → each_fits s records ≡ true
all_fit s [] t e = refl
all_fit s (r ∷ records) t e = by (broken_rule s r) refl e (all_fit (undo s r) records t)
  where
    by : (o : Option ℕ) → broken_rule s r ≡ o → from_first s r records o ≡ (t, None)
        → (undone (undo s r) records ≡ (t, None) → each_fits (undo s r) records ≡ true) → each_fits s (r ∷ records) ≡ true
    by None f g rest = and_from (is_none (broken_rule s r)) _ (ap is_none f) (rest g)
    by (Some k) f g rest = absurd (some_never_none (record { step = r.step; rule = k }) (ap (λ p. p.1) g))

-- where they are stopped, it is by the first that does not fit
one_breaks : (s : Slice) (records : List StepRecord) (t : Slice) (u : Misfitting) → undone s records ≡ (t, Some u) → IsBroken s records u.step u.rule
one_breaks s [] t u e = absurd (some_never_none u (sym (ap (λ p. p.1) e)))
one_breaks s (r ∷ records) t u e = by (broken_rule s r) refl e (one_breaks (undo s r) records t u)
  where
    by : (o : Option ℕ) → broken_rule s r ≡ o → from_first s r records o ≡ (t, Some u)
        → (undone (undo s r) records ≡ (t, Some u) → IsBroken (undo s r) records u.step u.rule) → IsBroken s (r ∷ records) u.step u.rule
    by None f g rest =
        let later = rest g in
        record {
          before = r ∷ later.before;
          refused = later.refused;
          after = later.after;
          split = ap (λ (rs : List StepRecord). r ∷ rs) later.split;
          fit = and_from (is_none (broken_rule s r)) _ (ap is_none f) later.fit;
          step_is = later.step_is;
          breaks = later.breaks;
        }
    by (Some k) f g rest =
        let told : Misfitting = record { step = r.step; rule = k } in
        let some : Some told ≡ Some u = ap (λ p. p.1) g in
        let same : told ≡ u = cc in
        record {
          before = [];
          refused = r;
          after = records;
          split = refl;
          fit = refl;
          step_is = ap (λ (v : Misfitting). v.step) same;
          breaks = f ∙ ap (λ (v : Misfitting). Some v.rule) same;
        }

-- records that fit one after the other are all undone
pub all_undone : (s : Slice) (records : List StepRecord) → each_fits s records ≡ true → undone s records ≡ (fold undo s records, None)
all_undone s [] e = refl
all_undone s (r ∷ records) e =
    let parts = and_parts (is_none (broken_rule s r)) (each_fits (undo s r) records) e in
    by (broken_rule s r) refl parts.0 (all_undone (undo s r) records parts.1)
  where
    by : (o : Option ℕ) → broken_rule s r ≡ o → is_none (broken_rule s r) ≡ true → undone (undo s r) records ≡ (fold undo s (r ∷ records), None)
        → undone s (r ∷ records) ≡ (fold undo s (r ∷ records), None)
    by None f fit rest = first_fits s r records f ∙ rest
    by (Some k) f fit rest = absurd (true≢false (sym fit ∙ ap is_none f))

-- a packet that is replayed to its end leads on
leads_on : (s : Slice) (p : Packet) (t : Slice) → outcome s p ≡ (t, None) → LeadsOn s p
leads_on s p t e = elim (cases_eq s.step p.from) [
  | inl same ↦ (same, all_fit s p.steps t (sym (own_step s p same) ∙ e))
  | inr other ↦ absurd (some_never_none _ (ap (λ q. q.1) (sym (other_step s p other) ∙ e)))
]

-- one that is refused is unfit
is_unfit : (s : Slice) (p : Packet) (t : Slice) (u : Misfitting) → outcome s p ≡ (t, Some u) → IsUnfit s p u.step u.rule
is_unfit s p t u e = elim (cases_eq s.step p.from) [
  | inl same ↦ inr (same, one_breaks s p.steps t u (sym (own_step s p same) ∙ e))
  | inr other ↦
      (let told : Misfitting = record { step = p.from; rule = 1 } in
      let some : Some told ≡ Some u = ap (λ q. q.1) (sym (other_step s p other) ∙ e) in
      let same : told ≡ u = cc in
      inl (other, sym (ap (λ (v : Misfitting). v.step) same), sym (ap (λ (v : Misfitting). v.rule) same)))
]

-- ---- texts

-- an outcome that is passed on
passed : (o : Outcome) (r : Result (List ℕ) Outcome) → IsErrAnd r (λ p. p ≡ o) → outcome_from r ≡ o
passed o (Ok text) same = absurd same
passed o (Err p) same = same

module _ (slice packet : List ℕ) where
  -- what comes of an outcome that is told and computed
  told_as : (o p : Outcome) → p ≡ o → SaysTexts slice packet o → texts_outcome slice packet ≡ o → IsOfFiles o
      → IsEither (SaysTexts slice packet) (texts_outcome slice packet) p
  told_as o p same says computed of_files =
      inr (subst (SaysTexts slice packet) (sym same) says, same ∙ sym computed, subst IsOfFiles (sym same) of_files)

  -- what comes of bytes that are the text of no slice
  pub no_slice_text : (o : Outcome) (r : Result (List ℕ) Outcome) → IsErrAnd r (λ p. p ≡ o)
      → (let read : Outcome → Result Slice Outcome = λ p. Err p in ReadsText (IsSliceText slice) (slice_of_text bad_text slice) SliceLine (read o))
      → IsEither (SaysTexts slice packet) (texts_outcome slice packet) (outcome_from r)
  unfolding texts_outcome
  no_slice_text o r same (inl memory) = inl (passed o r same ∙ memory)
  no_slice_text o r same (inr (line, is, none, read)) =
      told_as (Unfit (SliceLine line)) (outcome_from r) (passed o r same ∙ is) (none, read)
      (ap (λ (x : Result Slice BadText). texts_told x (packet_of_text bad_text packet)) read) tt

  module _ (s : Slice) (text : IsSliceText slice s) (read : slice_of_text bad_text slice ≡ Ok s) where
    -- of bytes that are the text of no packet
    pub no_packet_text : (o : Outcome) (r : Result (List ℕ) Outcome) → IsErrAnd r (λ p. p ≡ o)
        → (let read : Outcome → Result Packet Outcome = λ p. Err p in ReadsText (IsPacketText packet) (packet_of_text bad_text packet) PacketLine (read o))
        → IsEither (SaysTexts slice packet) (texts_outcome slice packet) (outcome_from r)
    unfolding texts_outcome
    no_packet_text o r same (inl memory) = inl (passed o r same ∙ memory)
    no_packet_text o r same (inr (line, is, none, bad)) =
        told_as (Unfit (PacketLine line)) (outcome_from r) (passed o r same ∙ is) ((s, text), (none, bad)) (ap₂ texts_told read bad) tt

    module _ (p : Packet) (packet_is : IsPacketText packet p) (packet_read : packet_of_text bad_text packet ≡ Ok p) where
      computed : (o : Slice × Option Misfitting) → outcome s p ≡ o → texts_outcome slice packet ≡ reached o
      unfolding texts_outcome
      computed o e = ap₂ texts_told read packet_read ∙ ap reached e

      -- of a packet that does not fit
      pub not_replayed : (e : Or Misfitting) (t : Slice) (r : Result (List ℕ) Outcome) → IsErrAnd r (λ o. o ≡ replay_refusal e)
          → (let told : Or Misfitting → Result (Unit {0}) (Or Misfitting) = λ x. Err x in Leaves (told e) t (outcome s p))
          → IsEither (SaysTexts slice packet) (texts_outcome slice packet) (outcome_from r)
      not_replayed Memory t r same leaves = inl (passed OutOfMemory r same)
      not_replayed (Fault u) t r same leaves =
          told_as (Unfit (Rule u.step u.rule)) (outcome_from r) (passed (Unfit (Rule u.step u.rule)) r same)
          (s, text, (p, packet_is, is_unfit s p t u leaves)) (computed (t, Some u) leaves) tt

      -- and of one that fits
      pub all_replayed : (t : Slice) (told : List ℕ) → outcome s p ≡ (t, None) → t ≡ replayed s p → told ≡ slice_text t
          → IsEither (SaysTexts slice packet) (texts_outcome slice packet) (Done told)
      all_replayed t told leaves done e =
          told_as (Done (slice_text t)) (Done told) (ap Done e) (s, text, (p, packet_is, leads_on s p t leaves, ap slice_text done))
          (computed (t, None) leaves) tt

-- The texts of a slice and of a packet that leads on from it give the text of the slice that it leads to.
pub texts_replay : (s t : Slice) (p : Packet) (slice packet : List ℕ) → IsSliceText slice s → IsPacketText packet p → s.step ≡ p.from
    → each_fits s p.steps ≡ true → replayed s p ≡ t → texts_outcome slice packet ≡ Done (slice_text t)
unfolding texts_outcome
texts_replay s t p slice packet text packet_is same fits leads =
    ap₂ texts_told (slice_again bad_text slice s text) (packet_again bad_text packet p packet_is)
    ∙ ap reached (own_step s p same ∙ all_undone s p.steps fits) ∙ ap (λ (u : Slice). Done (slice_text u)) leads

-- ---- files

-- files that hold these texts
abbrev both_texts : List ℕ → List ℕ → Contents
both_texts slice packet kind.Map = []
both_texts slice packet kind.Rules = []
both_texts slice packet kind.Slice = slice
both_texts slice packet kind.Packet = packet

-- what is answered of the files of these names
abbrev AnswersReplay : List ℕ → List ℕ → (Which → List ℕ → Told) → (Which → Type 0) → Outcome → Type 0
AnswersReplay slice packet = Answering (files_of_replay slice packet) SaysReplay replay_outcome

module _ (slice packet : List ℕ) (told : Which → List ℕ → Told) (rose : Which → Type 0) where
  -- what comes where the file of the slice is not had
  no_slice : (o : Outcome) → (let fetched : Outcome → Result (List ℕ) Outcome = λ p. Err p in Fetches (told kind.Slice slice) MAX_TEXT_BYTES kind.Slice (rose kind.Slice) (fetched o))
      → AnswersReplay slice packet told rose o
  no_slice o (inl failed) = inl (slice_file slice, inl refl, failed.0, failed.1)
  no_slice o (inr (inl memory)) = inr (inl memory)
  no_slice o (inr (inr long)) =
      let some = some_long MAX_TEXT_BYTES (told kind.Slice slice) long.1 in
      inr (inr (
        both_texts some.0 [],
        (some.2, λ fits. absurd (omega (arith, fits, some.1))),
        inl (some.1, long.0),
        rw (lt-ltb MAX_TEXT_BYTES (length some.0) some.1) long.0,
        subst IsOfFiles (sym long.0) tt,
      ))

  pub slice_passed_on : (o : Outcome) (r : Result (List ℕ) Outcome) → IsErrAnd r (λ p. p ≡ o)
      → (let fetched : Outcome → Result (List ℕ) Outcome = λ p. Err p in Fetches (told kind.Slice slice) MAX_TEXT_BYTES kind.Slice (rose kind.Slice) (fetched o))
      → AnswersReplay slice packet told rose (outcome_from r)
  slice_passed_on o r same h = subst (AnswersReplay slice packet told rose) (sym (passed o r same)) (no_slice o h)

  module _ (bytes : List ℕ) (few : length bytes ≤ MAX_TEXT_BYTES) (had : OfFile (told kind.Slice slice) (λ held. bytes ≡ held)) where
    -- what comes where the file of the packet is not had
    no_packet : (o : Outcome) → (let fetched : Outcome → Result (List ℕ) Outcome = λ p. Err p in Fetches (told kind.Packet packet) MAX_TEXT_BYTES kind.Packet (rose kind.Packet) (fetched o))
        → AnswersReplay slice packet told rose o
    no_packet o (inl failed) = inl (packet_file packet, inr (is_loaded MAX_TEXT_BYTES (told kind.Slice slice) bytes few had, inl refl), failed.0, failed.1)
    no_packet o (inr (inl memory)) = inr (inl memory)
    no_packet o (inr (inr long)) =
        let some = some_long MAX_TEXT_BYTES (told kind.Packet packet) long.1 in
        inr (inr (
          both_texts bytes some.0,
          (had, λ fits. (some.2, λ short. tt)),
          inr (few, inl (some.1, long.0)),
          rw (le-ltb MAX_TEXT_BYTES (length bytes) few, lt-ltb MAX_TEXT_BYTES (length some.0) some.1) long.0,
          subst IsOfFiles (sym long.0) tt,
        ))

    pub packet_passed_on : (o : Outcome) (r : Result (List ℕ) Outcome) → IsErrAnd r (λ p. p ≡ o)
        → (let fetched : Outcome → Result (List ℕ) Outcome = λ p. Err p in Fetches (told kind.Packet packet) MAX_TEXT_BYTES kind.Packet (rose kind.Packet) (fetched o))
        → AnswersReplay slice packet told rose (outcome_from r)
    packet_passed_on o r same h = subst (AnswersReplay slice packet told rose) (sym (passed o r same)) (no_packet o h)

    -- what comes of both files
    pub of_texts : (held : List ℕ) (o : Outcome) → length held ≤ MAX_TEXT_BYTES → OfFile (told kind.Packet packet) (λ read. held ≡ read)
        → IsEither (SaysTexts bytes held) (texts_outcome bytes held) o → AnswersReplay slice packet told rose o
    of_texts held o fits more (inl memory) = inr (inl memory)
    of_texts held o fits more (inr says) =
        inr (inr (
          both_texts bytes held,
          (had, λ h. (more, λ k. tt)),
          inr (few, inr (fits, says.0)),
          rw (le-ltb MAX_TEXT_BYTES (length bytes) few, le-ltb MAX_TEXT_BYTES (length held) fits) says.1,
          says.2,
        ))

-- ---- counts of faults, and the words

-- the counts after a failed load, as the outcome tells it
pub counts_told : (names : List FileName) (before now : Which → ℕ) (r : Result (List ℕ) Outcome)
    → (let told : Outcome → Result (List ℕ) Outcome = λ p. Err p in KeepCounts names before now (λ k. r ≡ told (LoadFault k)))
    → KeepCounts names before now (λ k. outcome_from r ≡ LoadFault k)
counts_told names before now r keep k = elim (keep k) [
  | inl same ↦ inl same
  | inr failed ↦ inr (failed.0, failed.1, failed.2, ap outcome_from failed.3)
]

-- what a command answers is answered to the words that ask for it
pub answers_words : (words : List (List ℕ)) (c : Command) (told : Which → List ℕ → Told) (rose : Which → Type 0) (o : Outcome) → command words ≡ Some c
    → AnswersCommand c told rose o → Answers words told rose o
answers_words words c told rose o asked h = rw asked h
