-- What comes of the packet of a map between two steps, as its definition says it and computes it.
use Rattle.std.proofs.Common.{◌≡◌, ℕ, ◌≤◌, ◌<◌, ◌↔◌, inl, inr, true, false, List, length, Some, None, Result, Ok, Err, refl, sym, ap, ◌∙◌, le-ltb, lt-ltb, subst, nat_lt, cond, Bool}
use Rattle.std.proofs.lemmas.Bool.{cases_lt}
use Rattle.std.specs.Result.{IsErrAnd}
use Rattle.tgap_model.specs.declared.failure.Or.{Or}
use Rattle.tgap_model.specs.declared.failure.Or.TheVariants.{Fault}
use Rattle.tgap_model.specs.declared.fault.MapFault.{MapFault}
use Rattle.tgap_model.specs.declared.record.Packet.{Packet}
use Rattle.tgap_model.specs.Base.{BaseMap, is_base}
use Rattle.tgap_model.specs.History.{history_of}
use Rattle.tgap_model.specs.Merged.{merged}
use Rattle.tgap_model.specs.Partition.{IsPartition, base_segments, map_fault}
use Rattle.grid_geo.specs.Evidence.{IsShownBy}
use Rattle.tgap_model.specs.Records.{packet_of, replayed}
use Rattle.tgap_model.specs.Slice.{slice}
use Rattle.wire_text.specs.SliceTexts.{packet_text, slice_text}
use Rattle.wire_text.specs.SliceReading.{IsPacketText}
use Rattle.face_merge.proofs.Steps.{history_is}
use Rattle.record_laws.specs.PacketLaws.{each_fits}
use Rattle.record_laws.proofs.PacketSteps.{packets_fit_by, packets_lead_by, packets_join}
use Rattle.record_laws.proofs.Fits.{records_fit}
use Rattle.record_laws.proofs.UndoStep.{undo_goes_back}
use Rattle.refine_packets.specs.declared.fail.PacketFail.{PacketFail}
use Rattle.refine_packets.specs.declared.fail.PacketFail.TheVariants as fail
use Rattle.commands.specs.declared.outcome.Outcome.{Outcome}
use Rattle.commands.specs.declared.outcome.Outcome.TheVariants.{Done, Usage, LoadFault, Refused, StepTooHigh, NotCoarser, OutOfMemory, PortFault, Unfit, JournalFault, BadEntry, LongJournal}
use Rattle.commands.specs.Outcomes.{refusal, packet_refusal}
use Rattle.commands.specs.Answers.{IsEither, outcome_from}
use Rattle.commands.specs.Packet.{IsPacketOf, SaysPacket, SaysPacketOf, packet_outcome, packet_of_outcome}
use Rattle.commands.proofs.Says.{refused_is}
use Rattle.commands.proofs.Replays.{texts_replay}
use Rattle.commands.proofs.SliceForm.{slice_form}
use Rattle.commands.proofs.PacketForm.{packet_form}

-- a map that is refused by its check
pub packet_failed : (m : BaseMap) (from to : ℕ) (e : Or MapFault) (r : Result (List ℕ) Outcome) → IsErrAnd r (λ o. o ≡ refusal e)
    → (let told : Or MapFault → Result BaseMap (Or MapFault) = λ x. Err x in
    ((fault : MapFault) → told e ≡ told (Fault fault) → map_fault m ≡ Some fault)
    × ((fault : MapFault) → told e ≡ told (Fault fault) → IsShownBy (base_segments m) fault)
    × ((fault : MapFault) → told e ≡ told (Fault fault) → ¬ (IsPartition (base_segments m))))
    → IsEither (SaysPacket from to m) (packet_outcome from to m) (outcome_from r)
unfolding packet_outcome
packet_failed m from to e r same h = elim (refused_is m e r same h) [
  | inl memory ↦ inl memory
  | inr refused ↦ inr (rw refused.1 (refused.3, rw (refused.2, packet_outcome) refl, tt))
]

-- what comes of a planar partition comes of the map
pub packet_passed : (m : BaseMap) (from to : ℕ) (o : Outcome) → IsPartition (base_segments m) → map_fault m ≡ None
    → IsEither (SaysPacketOf from to m) (packet_of_outcome from to m) o → IsEither (SaysPacket from to m) (packet_outcome from to m) o
unfolding packet_outcome
packet_passed m from to o is none (inl memory) = inl memory
packet_passed m from to o is none (inr h) = inr (says o h.0, rw (none, packet_outcome) h.1, h.2)
  where
    says : (o : Outcome) → SaysPacketOf from to m o → SaysPacket from to m o
    says (Done text) s = (is, s)
    says (StepTooHigh last) s = (is, s)
    says (NotCoarser first last) s = (is, s)
    says Usage s = absurd s
    says (LoadFault which) s = absurd s
    says (Refused fault) s = absurd s
    says OutOfMemory s = absurd s
    says PortFault s = absurd s
    says (Unfit misfit) s = absurd s
    says JournalFault s = absurd s
    says (BadEntry place) s = absurd s
    says (LongJournal batches) s = absurd s

-- ---- what comes of two steps

-- the three outcomes, by the tests of the steps
abbrev by_tests : ℕ → ℕ → BaseMap → Bool → Bool → Outcome
by_tests from to m coarser high =
    cond coarser (NotCoarser from to) (cond high (StepTooHigh (length (history_of m))) (Done (packet_text (packet_of (merged m) from to))))

by_steps : (m : BaseMap) (from to : ℕ) → packet_of_outcome from to m ≡ by_tests from to m (nat_lt from to) (nat_lt (length (history_of m)) from)
unfolding packet_of_outcome
by_steps m from to = refl

-- the step to go to is above the step to go from
pub not_coarser_is : (m : BaseMap) (from to : ℕ) → from < to → IsEither (SaysPacketOf from to m) (packet_of_outcome from to m) (NotCoarser from to)
not_coarser_is m from to less =
    let high = nat_lt (length (history_of m)) from in
    inr ((refl, refl, less), sym (by_steps m from to ∙ ap (λ (b : Bool). by_tests from to m b high) (lt-ltb from to less)), tt)

-- the step to go from is above the last one
pub too_high_is : (m : BaseMap) (from to last : ℕ) → to ≤ from → length (history_of m) < from → last ≡ length (history_of m)
    → IsEither (SaysPacketOf from to m) (packet_of_outcome from to m) (StepTooHigh last)
too_high_is m from to last low above is =
    let high = nat_lt (length (history_of m)) from in
    inr (
      (low, (history_of m, history_is m, is, above)),
      ap StepTooHigh is
          ∙ sym (by_steps m from to ∙ ap (λ (b : Bool). by_tests from to m b high) (le-ltb from to low) ∙ ap (by_tests from to m false) (lt-ltb _ from above)),
      tt,
    )

-- the packet begins at the step of the slice
pub same_step : (m : BaseMap) (from to : ℕ) (p : Packet) → p ≡ packet_of (merged m) from to → (slice m from).step ≡ p.from
unfolding slice packet_of
same_step m from to p is = ap (λ (q : Packet). q.from) (sym is)

-- the text of the packet between two steps of the history
pub packet_done : (m : BaseMap) (from to : ℕ) (text : List ℕ) → is_base m ≡ true → IsPartition (base_segments m) → to ≤ from → from ≤ length (history_of m)
    → text ≡ packet_text (packet_of (merged m) from to) → IsEither (SaysPacketOf from to m) (packet_of_outcome from to m) (Done text)
packet_done m from to text base planar low last e =
    let p = packet_of (merged m) from to in
    let high = nat_lt (length (history_of m)) from in
    let spelled : IsPacketText text p = record { form = packet_form m base planar from to low last; spelled = e } in
    let fits : each_fits (slice m from) p.steps ≡ true = packets_fit_by records_fit undo_goes_back m base planar from to low last in
    let leads : replayed (slice m from) p ≡ slice m to = packets_lead_by records_fit undo_goes_back m base planar from to low last in
    let packet : IsPacketOf m from to text = record {
      packet = p;
      exact = refl;
      spelled = spelled;
      fits = fits;
      leads = leads;
      joins = λ middle down up. packets_join (merged m) from middle to down up;
      replays = texts_replay (slice m from) (slice m to) p (slice_text (slice m from)) text
          (record { form = slice_form m base planar from last; spelled = refl }) spelled (same_step m from to p refl) fits leads;
    } in
    inr (
      (history_is m, low, last, packet),
      ap Done e ∙ sym (by_steps m from to ∙ ap (λ (b : Bool). by_tests from to m b high) (le-ltb from to low) ∙ ap (by_tests from to m false) (le-ltb _ from last)),
      tt,
    )

-- two steps between which there is the text of a packet
pub steps_within : (m : BaseMap) (from to : ℕ) (text : List ℕ)
    → (let told : Result (List ℕ) PacketFail → Result (List ℕ) PacketFail = λ r. r in (told (Ok text) ≡ told (Err fail.NotCoarser)) ↔ (from < to))
    → (let told : Result (List ℕ) PacketFail → Result (List ℕ) PacketFail = λ r. r in
    (steps : ℕ) → told (Ok text) ≡ told (Err (fail.StepTooHigh steps)) ↔ ((to ≤ from) × (length (history_of m) < from) × (steps ≡ length (history_of m))))
    → (to ≤ from) × (from ≤ length (history_of m))
steps_within m from to text coarser high = elim (cases_lt from to) [
  | inl less ↦ (let clash = coarser.1 less in absurd cc)
  | inr low ↦ (
    low,
    elim (cases_lt (length (history_of m)) from) [
      | inr last ↦ last
      | inl above ↦ (let clash = (high (length (history_of m))).1 (low, above, refl) in absurd cc)
    ],
  )
]

-- what comes where there is no packet
pub packet_refused : (m : BaseMap) (from to : ℕ) (e : PacketFail) (o : Outcome) → o ≡ packet_refusal from to e
    → (let told : PacketFail → Result (List ℕ) PacketFail = λ x. Err x in (told e ≡ told fail.NotCoarser) ↔ (from < to))
    → (let told : PacketFail → Result (List ℕ) PacketFail = λ x. Err x in
    (steps : ℕ) → told e ≡ told (fail.StepTooHigh steps) ↔ ((to ≤ from) × (length (history_of m) < from) × (steps ≡ length (history_of m))))
    → IsEither (SaysPacketOf from to m) (packet_of_outcome from to m) o
packet_refused m from to fail.NotCoarser o same coarser high =
    subst (IsEither (SaysPacketOf from to m) (packet_of_outcome from to m)) (sym same) (not_coarser_is m from to (coarser.0 refl))
packet_refused m from to (fail.StepTooHigh steps) o same coarser high =
    let above = (high steps).0 refl in
    subst (IsEither (SaysPacketOf from to m) (packet_of_outcome from to m)) (sym same) (too_high_is m from to steps above.0 above.1 above.2)
packet_refused m from to fail.Memory o same coarser high = inl same
