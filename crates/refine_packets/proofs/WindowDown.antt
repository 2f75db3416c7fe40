-- The records of a window for steps from one step down, and what holds of them.
use Rattle.std.proofs.Common.{◌≡◌, ◌<◌, ◌≤◌, ℕ, zero, suc, ◌+◌, ◌-◌, Bool, true, cond, nat_le, List, [], ◌∷◌, ◌++◌, length, sym, ap, ap₂, ◌∙◌, arith}
use Rattle.std.proofs.lemmas.Bool.{and_from, le-leb}
use Rattle.tgap_model.specs.declared.geometry.Window.{Window}
use Rattle.tgap_model.specs.declared.window_record.WindowStep.{WindowStep}
use Rattle.tgap_model.specs.declared.window_record.WindowPacket.{WindowPacket}
use Rattle.tgap_model.specs.Base.{BaseMap, is_base}
use Rattle.tgap_model.specs.Partition.{IsPartition, base_segments}
use Rattle.tgap_model.specs.History.{history_of}
use Rattle.tgap_model.specs.Merged.{MergedMap, merged}
use Rattle.tgap_model.specs.Records.{has_step}
use Rattle.tgap_model.specs.WindowRecords.{window_at, window_step, window_steps_down, window_packet_of, replayed_in}
use Rattle.window_laws.specs.WindowPacketLaws.{each_fits_in}
use Rattle.window_laws.proofs.WindowPacketSteps.{window_packets_fit_by, window_packets_lead_by}
use Rattle.window_laws.proofs.WindowSteps.{window_steps_fit, window_undo_goes_back}

module _ (h : MergedMap) (area : Window) where
  there : (from : ℕ) → 1 ≤ from → from ≤ length h.steps → has_step h from ≡ true
  there from some within = and_from (nat_le 1 from) (nat_le from (length h.steps)) (le-leb 1 from some) (le-leb from (length h.steps) within)

  first : (from n : ℕ) → 1 ≤ from → from ≤ length h.steps
      → window_steps_down h area from (suc n) ≡ window_step h area from ∷ window_steps_down h area (from - 1) n
  first from n some within =
      ap (λ (b : Bool). cond b (window_step h area from ∷ window_steps_down h area (from - 1) n) (window_steps_down h area (from - 1) n)) (there from some within)

  -- one more is that of the next step down
  pub one_more_in : (from n : ℕ) → n < from → from ≤ length h.steps
      → window_steps_down h area from n ++ window_step h area (from - n) ∷ [] ≡ window_steps_down h area from (n + 1)
  one_more_in from zero some within =
      let whole : from - 0 ≡ from = omega arith in
      ap (λ (i : ℕ). window_step h area i ∷ []) whole ∙ sym (first from 0 (omega (arith, some)) within)
  one_more_in from (suc n) some within =
      let down : from - suc n ≡ from - 1 - n = omega arith in
      let next : suc (n + 1) ≡ suc n + 1 = omega arith in
      ap₂ (λ (rs : List WindowStep) (i : ℕ). rs ++ window_step h area i ∷ []) (first from n (omega (arith, some)) within) down
      ∙ ap (λ (rs : List WindowStep). window_step h area from ∷ rs) (one_more_in (from - 1) n (omega (arith, some)) (omega (arith, within)))
      ∙ sym (first from (n + 1) (omega (arith, some)) within)
      ∙ ap (window_steps_down h area from) next

  module _ (from to : ℕ) (steps : List WindowStep) (is : steps ≡ window_steps_down h area from (from - to)) where
    pub exact_in : record { from = from; to = to; area = area; steps = steps } ≡ window_packet_of h area from to
    unfolding window_packet_of
    exact_in = ap (λ (rs : List WindowStep). record { from = from; to = to; area = area; steps = rs }) is

    pub steps_in : steps ≡ (window_packet_of h area from to).steps
    steps_in = ap (λ (p : WindowPacket). p.steps) exact_in

module _ (m : BaseMap) (base : is_base m ≡ true) (planar : IsPartition (base_segments m)) (area : Window) (from to : ℕ) (down : to ≤ from) (within : from ≤ length (history_of m))
    (steps : List WindowStep) (is : steps ≡ window_steps_down (merged m) area from (from - to)) where
  pub fits_in : each_fits_in area (window_at (merged m) area from) steps ≡ true
  fits_in =
      ap (each_fits_in area (window_at (merged m) area from)) (steps_in (merged m) area from to steps is)
      ∙ window_packets_fit_by window_steps_fit window_undo_goes_back m base planar from to down within area

  pub leads_in : replayed_in (window_at (merged m) area from) (record { from = from; to = to; area = area; steps = steps }) ≡ window_at (merged m) area to
  leads_in =
      ap (replayed_in (window_at (merged m) area from)) (exact_in (merged m) area from to steps is)
      ∙ window_packets_lead_by window_steps_fit window_undo_goes_back m base planar from to down within area
