-- The records down to a step are a packet, and it has what the laws of packets say.
use Rattle.std.proofs.Common.{◌≡◌, ◌≤◌, ◌-◌, ◌++◌, ℕ, true, List, length, sym, ap, ◌∙◌, subst}
use Rattle.tgap_model.specs.declared.record.StepRecord.{StepRecord}
use Rattle.tgap_model.specs.declared.record.Packet.{Packet}
use Rattle.tgap_model.specs.Base.{BaseMap, is_base}
use Rattle.tgap_model.specs.Partition.{IsPartition, base_segments}
use Rattle.tgap_model.specs.History.{history_of}
use Rattle.tgap_model.specs.Merged.{MergedMap, merged}
use Rattle.tgap_model.specs.Slice.{slice}
use Rattle.tgap_model.specs.Records.{packet_of, records_down, replayed}
use Rattle.record_laws.specs.PacketLaws.{each_fits}
use Rattle.record_laws.proofs.Fits.{records_fit}
use Rattle.record_laws.proofs.PacketSteps.{packets_fit_by, packets_lead_by, packets_join}
use Rattle.record_laws.proofs.UndoStep.{undo_goes_back}

module _ (h : MergedMap) (from to : ℕ) (steps : List StepRecord) (is : steps ≡ records_down h from (from - to)) where
  pub exact : record { from = from; to = to; steps = steps } ≡ packet_of h from to
  unfolding packet_of
  exact = ap (λ (rs : List StepRecord). record { from = from; to = to; steps = rs }) is

  pub steps_are : steps ≡ (packet_of h from to).steps
  steps_are = ap (λ (p : Packet). p.steps) exact

  pub joins : (middle : ℕ) → to ≤ middle → middle ≤ from → steps ≡ (packet_of h from middle).steps ++ (packet_of h middle to).steps
  joins middle low high = steps_are ∙ packets_join h from middle to low high

module _ (m : BaseMap) (base : is_base m ≡ true) (planar : IsPartition (base_segments m)) (from to : ℕ) (down : to ≤ from) (within : from ≤ length (history_of m))
    (steps : List StepRecord) (is : steps ≡ records_down (merged m) from (from - to)) where
  pub fits : each_fits (slice m from) steps ≡ true
  fits = subst (λ (rs : List StepRecord). each_fits (slice m from) rs ≡ true) (sym (steps_are (merged m) from to steps is)) (packets_fit_by records_fit undo_goes_back m base planar from to down within)

  pub leads : replayed (slice m from) (record { from = from; to = to; steps = steps }) ≡ slice m to
  leads = ap (replayed (slice m from)) (exact (merged m) from to steps is) ∙ packets_lead_by records_fit undo_goes_back m base planar from to down within
