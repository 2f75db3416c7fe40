-- What comes of a base map, command by command, as its definition says it and computes it.
use Rattle.std.proofs.Common.{◌≡◌, ℕ, true, ◌≤◌, ◌<◌, ◌↔◌, ◌⊎◌, inl, inr, List, length, take, Some, None, Result, Ok, Err, refl, sym, ap, ◌∙◌, le-ltb, lt-ltb, subst, nat_lt, if◌then◌else◌}
use Rattle.std.proofs.lemmas.Bool.{cases_lt}
use Rattle.std.specs.Result.{IsErrAnd}
use Rattle.tgap_model.specs.declared.merge.MergeStep.{MergeStep}
use Rattle.tgap_model.specs.declared.failure.Or.{Or}
use Rattle.tgap_model.specs.declared.failure.Or.TheVariants.{Fault, Memory}
use Rattle.tgap_model.specs.declared.fault.MapFault.{MapFault}
use Rattle.tgap_model.specs.Base.{BaseMap, is_base}
use Rattle.commands.specs.Border.{border_by}
use Rattle.tgap_model.specs.History.{IsHistory, label_after, history_of}
use Rattle.tgap_model.specs.Partition.{IsPartition, base_segments, map_fault}
use Rattle.grid_geo.specs.Evidence.{IsShownBy}
use Rattle.line_forms.specs.Texts.{borders_text}
use Rattle.tgap_model.specs.Slice.{slice}
use Rattle.wire_text.specs.SliceTexts.{slice_text}
use Rattle.face_merge.proofs.Steps.{history_is}
use Rattle.slice_read.specs.declared.fail.ReadFail.{ReadFail}
use Rattle.slice_read.specs.declared.fail.ReadFail.TheVariants as fail
use Rattle.slice_read.proofs.Slices.{relation, planar_edges, partition, adjacent, unions}
use Rattle.commands.specs.declared.outcome.Outcome.{Outcome}
use Rattle.commands.specs.declared.outcome.Outcome.TheVariants.{Done, Usage, LoadFault, Refused, StepTooHigh, NotCoarser, OutOfMemory, PortFault, Unfit, JournalFault, BadEntry, LongJournal}
use Rattle.commands.specs.Outcomes.{IsOfFiles, refusal, read_refusal}
use Rattle.commands.specs.Answers.{IsEither, outcome_from}
use Rattle.commands.specs.Borders.{SaysBorders, borders_outcome}
use Rattle.commands.specs.Check.{IsFirstFault, SaysCheck, check_outcome}
use Rattle.commands.specs.Slice.{IsSliceOf, SaysSlice, SaysSliceOf, slice_outcome, slice_of_outcome}

-- the borders after a step that the history has
pub borders_done : (m : BaseMap) (k : ℕ) (steps : List MergeStep) (text : List ℕ) → IsHistory m steps → steps ≡ history_of m → k ≤ length steps
    → text ≡ borders_text k (border_by (label_after (take k steps)) 0 m.arcs)
    → SaysBorders k m (Done text) × (Done text ≡ borders_outcome k m) × IsOfFiles (Done text)
unfolding borders_outcome
borders_done m k steps text is same within e =
    let words : List MergeStep → List ℕ = λ s. borders_text k (border_by (label_after (take k s)) 0 m.arcs) in
    let last : k ≤ length (history_of m) = subst (λ (s : List MergeStep). k ≤ length s) same within in
    ((steps, is, within, e), rw (le-ltb (length (history_of m)) k last) (ap Done (e ∙ ap words same)), tt)

-- memory is wanting
pub memory_wanting : (P : Outcome → Type 0) (computed : Outcome) (r : Result (List ℕ) Outcome) → IsErrAnd r (λ o. o ≡ OutOfMemory)
    → IsEither P computed (outcome_from r)
memory_wanting P computed (Ok text) same = absurd same
memory_wanting P computed (Err o) same = inl same

-- a map that is refused by its check
pub refused_is : (m : BaseMap) (e : Or MapFault) (r : Result (List ℕ) Outcome) → IsErrAnd r (λ o. o ≡ refusal e)
    → (let told : Or MapFault → Result BaseMap (Or MapFault) = λ x. Err x in
    ((fault : MapFault) → told e ≡ told (Fault fault) → map_fault m ≡ Some fault)
    × ((fault : MapFault) → told e ≡ told (Fault fault) → IsShownBy (base_segments m) fault)
    × ((fault : MapFault) → told e ≡ told (Fault fault) → ¬ (IsPartition (base_segments m))))
    → (outcome_from r ≡ OutOfMemory) ⊎ ((fault : MapFault) × (outcome_from r ≡ Refused fault) × (map_fault m ≡ Some fault) × IsFirstFault m fault)
refused_is m e (Ok text) same h = absurd same
refused_is m (Fault fault) (Err o) same h = inr (fault, same, h.0 fault refl, (h.2 fault refl, h.1 fault refl))
refused_is m Memory (Err o) same h = inl same

pub check_failed : (m : BaseMap) (e : Or MapFault) (r : Result (List ℕ) Outcome) → IsErrAnd r (λ o. o ≡ refusal e)
    → (let told : Or MapFault → Result BaseMap (Or MapFault) = λ x. Err x in
    ((fault : MapFault) → told e ≡ told (Fault fault) → map_fault m ≡ Some fault)
    × ((fault : MapFault) → told e ≡ told (Fault fault) → IsShownBy (base_segments m) fault)
    × ((fault : MapFault) → told e ≡ told (Fault fault) → ¬ (IsPartition (base_segments m))))
    → IsEither (SaysCheck m) (check_outcome m) (outcome_from r)
unfolding check_outcome
check_failed m e r same h = elim (refused_is m e r same h) [
  | inl memory ↦ inl memory
  | inr refused ↦ inr (rw refused.1 (refused.3, rw (refused.2, check_outcome) refl, tt))
]

-- ---- slices

pub slice_failed : (m : BaseMap) (k : ℕ) (e : Or MapFault) (r : Result (List ℕ) Outcome) → IsErrAnd r (λ o. o ≡ refusal e)
    → (let told : Or MapFault → Result BaseMap (Or MapFault) = λ x. Err x in
    ((fault : MapFault) → told e ≡ told (Fault fault) → map_fault m ≡ Some fault)
    × ((fault : MapFault) → told e ≡ told (Fault fault) → IsShownBy (base_segments m) fault)
    × ((fault : MapFault) → told e ≡ told (Fault fault) → ¬ (IsPartition (base_segments m))))
    → IsEither (SaysSlice k m) (slice_outcome k m) (outcome_from r)
unfolding slice_outcome
slice_failed m k e r same h = elim (refused_is m e r same h) [
  | inl memory ↦ inl memory
  | inr refused ↦ inr (rw refused.1 (refused.3, rw (refused.2, slice_outcome) refl, tt))
]

-- what comes of a planar partition comes of the map
pub slice_passed : (m : BaseMap) (k : ℕ) (o : Outcome) → IsPartition (base_segments m) → map_fault m ≡ None
    → IsEither (SaysSliceOf k m) (slice_of_outcome k m) o → IsEither (SaysSlice k m) (slice_outcome k m) o
unfolding slice_outcome
slice_passed m k o is none (inl memory) = inl memory
slice_passed m k o is none (inr h) = inr (says o h.0, rw (none, slice_outcome) h.1, h.2)
  where
    says : (o : Outcome) → SaysSliceOf k m o → SaysSlice k m o
    says (Done text) s = (is, s)
    says (StepTooHigh last) s = (is, s)
    says Usage s = absurd s
    says (LoadFault which) s = absurd s
    says (Refused fault) s = absurd s
    says (NotCoarser from to) s = absurd s
    says OutOfMemory s = absurd s
    says PortFault s = absurd s
    says (Unfit misfit) s = absurd s
    says JournalFault s = absurd s
    says (BadEntry place) s = absurd s
    says (LongJournal batches) s = absurd s

-- one of two, by numbers
by_less : {A : Type 0} (a b : ℕ) (x y : A) → a < b → (if nat_lt a b then x else y) ≡ x
by_less a b x y less = rw (lt-ltb a b less) refl

by_not_less : {A : Type 0} (a b : ℕ) (x y : A) → b ≤ a → (if nat_lt a b then x else y) ≡ y
by_not_less a b x y not_less = rw (le-ltb a b not_less) refl

-- what comes of a step
by_step : (m : BaseMap) (k : ℕ)
    → slice_of_outcome k m ≡ (if nat_lt (length (history_of m)) k then StepTooHigh (length (history_of m)) else Done (slice_text (slice m k)))
unfolding slice_of_outcome
by_step m k = refl

-- a step of which there is a text is not above the last one
step_within : (m : BaseMap) (k : ℕ) (text : List ℕ)
    → (let told : Result (List ℕ) ReadFail → Result (List ℕ) ReadFail = λ r. r in
    (steps : ℕ) → told (Ok text) ≡ told (Err (fail.StepTooHigh steps)) ↔ ((length (history_of m) < k) × (steps ≡ length (history_of m))))
    → k ≤ length (history_of m)
step_within m k text high = elim (cases_lt (length (history_of m)) k) [
  | inr within ↦ within
  | inl above ↦
      let clash = (high (length (history_of m))).1 (above, refl) in
      absurd cc
]

-- the slice of a planar partition after a step that its history has
slice_holds : (m : BaseMap) (k : ℕ) → is_base m ≡ true → IsPartition (base_segments m) → k ≤ length (history_of m) → IsSliceOf m k (slice m k)
slice_holds m k base planar within = record {
  exact = refl;
  chains = relation m base planar k within (slice m k) refl;
  planar = planar_edges m base planar k within (slice m k) refl;
  partition = partition m base planar k within (slice m k) refl;
  unions = unions m base planar k within (slice m k) refl;
  adjacent = adjacent m base planar k within (slice m k) refl;
}

-- its text
pub slice_done : (m : BaseMap) (k : ℕ) (text : List ℕ) → is_base m ≡ true → IsPartition (base_segments m)
    → (let told : Result (List ℕ) ReadFail → Result (List ℕ) ReadFail = λ r. r in
    (steps : ℕ) → told (Ok text) ≡ told (Err (fail.StepTooHigh steps)) ↔ ((length (history_of m) < k) × (steps ≡ length (history_of m))))
    → text ≡ slice_text (slice m k) → IsEither (SaysSliceOf k m) (slice_of_outcome k m) (Done text)
slice_done m k text base planar high e =
    let within : k ≤ length (history_of m) = step_within m k text high in
    let done : Done text ≡ slice_of_outcome k m = ap Done e ∙ sym (by_step m k ∙ by_not_less (length (history_of m)) k _ _ within) in
    inr ((history_is m, within, (slice m k, slice_holds m k base planar within, e)), done, tt)

-- the step is above the last one, or memory is wanting
pub slice_failed_of : (m : BaseMap) (k : ℕ) (e : ReadFail) (r : Result (List ℕ) Outcome) → IsErrAnd r (λ o. o ≡ read_refusal e)
    → (let told : ReadFail → Result (List ℕ) ReadFail = λ x. Err x in
    (steps : ℕ) → told e ≡ told (fail.StepTooHigh steps) ↔ ((length (history_of m) < k) × (steps ≡ length (history_of m))))
    → IsEither (SaysSliceOf k m) (slice_of_outcome k m) (outcome_from r)
slice_failed_of m k e (Ok text) same high = absurd same
slice_failed_of m k fail.Memory (Err o) same high = inl same
slice_failed_of m k (fail.StepTooHigh steps) (Err o) same high =
    let last = length (history_of m) in
    let above = (high steps).0 refl in
    let computed : o ≡ slice_of_outcome k m = same ∙ (ap StepTooHigh above.1 ∙ sym (by_step m k ∙ by_less last k _ _ above.0)) in
    inr (rw same (history_of m, history_is m, above.1, above.0), computed, rw same tt)
