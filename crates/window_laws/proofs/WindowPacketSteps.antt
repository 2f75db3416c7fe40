-- Packets of a window lead to the window of any finer slice, where each record leads one step back.
use Rattle.std.proofs.Common.{◌≡◌, ℕ, zero, suc, ◌+◌, ◌-◌, ◌≤◌, Bool, true, false, nat_le, cond, List, ◌∷◌, ◌++◌, length, refl, ap, ap₂, ◌∙◌, arith}
use Rattle.std.specs.Prelude.{fold, is_none}
use Rattle.std.proofs.lemmas.Bool.{and_from, le-leb}
use Rattle.tgap_model.specs.declared.geometry.Window.{Window}
use Rattle.tgap_model.specs.declared.slice.Slice.{Slice}
use Rattle.tgap_model.specs.declared.window_record.WindowStep.{WindowStep}
use Rattle.tgap_model.specs.Base.{BaseMap, is_base}
use Rattle.tgap_model.specs.Partition.{IsPartition, base_segments}
use Rattle.tgap_model.specs.History.{history_of}
use Rattle.tgap_model.specs.Merged.{MergedMap, merged}
use Rattle.tgap_model.specs.Records.{has_step}
use Rattle.tgap_model.specs.WindowRecords.{window_at, window_step, window_steps_down, window_packet_of, undo_in, broken_rule_in}
use Rattle.window_laws.specs.WindowLaws.{WindowStepsFit, WindowUndoGoesBack}
use Rattle.window_laws.specs.WindowPacketLaws.{each_fits_in, WindowPacketsFit, WindowPacketsLead, WindowPacketsJoin}

-- ---- records in a row

-- the records of some steps, and those of more
steps_split : (h : MergedMap) (area : Window) (a b n from rest : ℕ) → n ≡ a + b → rest ≡ from - a
    → window_steps_down h area from n ≡ window_steps_down h area from a ++ window_steps_down h area rest b
steps_split h area zero b n from rest e f =
    let same : n ≡ b = omega (arith, e) in
    let here : from ≡ rest = omega (arith, f) in
    ap₂ (window_steps_down h area) here same
steps_split h area (suc a) b zero from rest e f = absurd (omega arith)
steps_split h area (suc a) b (suc n) from rest e f = by (has_step h from) (steps_split h area a b n (from - 1) rest (omega arith) (omega (arith, f)))
  where
    by : (v : Bool) → window_steps_down h area (from - 1) n ≡ window_steps_down h area (from - 1) a ++ window_steps_down h area rest b
        → cond v (window_step h area from ∷ window_steps_down h area (from - 1) n) (window_steps_down h area (from - 1) n)
        ≡ cond v (window_step h area from ∷ window_steps_down h area (from - 1) a) (window_steps_down h area (from - 1) a) ++ window_steps_down h area rest b
    by true g = ap (λ (rs : List WindowStep). window_step h area from ∷ rs) g
    by false g = g

pub window_packets_join : WindowPacketsJoin
unfolding window_packet_of
window_packets_join h area from middle to low high =
    let split : from - to ≡ (from - middle) + (middle - to) = omega (arith, low, high) in
    let there : middle ≡ from - (from - middle) = omega (arith, high) in
    steps_split h area (from - middle) (middle - to) (from - to) from middle split there

-- ---- records that lead one step back each

module _ (fit : WindowStepsFit) (back : WindowUndoGoesBack) (m : BaseMap) (base : is_base m ≡ true) (planar : IsPartition (base_segments m)) (area : Window) where
  step_there : (from : ℕ) → 1 ≤ from → from ≤ length (history_of m) → has_step (merged m) from ≡ true
  step_there from one last = and_from (nat_le 1 from) _ (le-leb 1 from one) (le-leb from (length (history_of m)) last)

  abbrev here : ℕ → Slice
  here k = window_at (merged m) area k

  abbrev down : ℕ → ℕ → List WindowStep
  down from n = window_steps_down (merged m) area from n

  down_fits : (n from to : ℕ) → from ≡ to + n → from ≤ length (history_of m) → each_fits_in area (here from) (down from n) ≡ true
  down_fits zero from to e last = refl
  down_fits (suc n) from to e last =
      ap (λ (v : Bool). each_fits_in area (here from) (cond v (window_step (merged m) area from ∷ down (from - 1) n) (down (from - 1) n)))
      (step_there from (omega (arith, e)) last)
      ∙ and_from (is_none (broken_rule_in area (here from) (window_step (merged m) area from))) _
      (ap is_none (fit m base planar from (omega (arith, e)) last area))
      (ap (λ (s : Slice). each_fits_in area s (down (from - 1) n)) (back m base planar from (omega (arith, e)) last area)
      ∙ down_fits n (from - 1) to (omega (arith, e)) (omega (arith, last)))

  down_leads : (n from to : ℕ) → from ≡ to + n → from ≤ length (history_of m) → fold (undo_in area) (here from) (down from n) ≡ here to
  down_leads zero from to e last = ap here (omega (arith, e))
  down_leads (suc n) from to e last =
      ap (λ (v : Bool). fold (undo_in area) (here from) (cond v (window_step (merged m) area from ∷ down (from - 1) n) (down (from - 1) n)))
      (step_there from (omega (arith, e)) last)
      ∙ ap (λ (s : Slice). fold (undo_in area) s (down (from - 1) n)) (back m base planar from (omega (arith, e)) last area)
      ∙ down_leads n (from - 1) to (omega (arith, e)) (omega (arith, last))

pub window_packets_fit_by : WindowStepsFit → WindowUndoGoesBack → WindowPacketsFit
unfolding window_packet_of
window_packets_fit_by fit back m base planar from to low last area =
    let count : from ≡ to + (from - to) = omega (arith, low) in
    down_fits fit back m base planar area (from - to) from to count last

pub window_packets_lead_by : WindowStepsFit → WindowUndoGoesBack → WindowPacketsLead
unfolding window_packet_of
window_packets_lead_by fit back m base planar from to low last area =
    let count : from ≡ to + (from - to) = omega (arith, low) in
    down_leads fit back m base planar area (from - to) from to count last
