-- Packets lead from a slice to any finer one, where each record leads one step back.
use Rattle.std.proofs.Common.{◌≡◌, ℕ, zero, suc, ◌+◌, ◌-◌, ◌≤◌, Bool, true, false, nat_le, cond, List, ◌∷◌, ◌++◌, length, refl, ap, ap₂, ◌∙◌, arith}
use Rattle.std.specs.Prelude.{fold, is_none}
use Rattle.std.proofs.lemmas.Bool.{and_from, le-leb}
use Rattle.tgap_model.specs.declared.slice.Slice.{Slice}
use Rattle.tgap_model.specs.declared.record.StepRecord.{StepRecord}
use Rattle.tgap_model.specs.Base.{BaseMap, is_base}
use Rattle.tgap_model.specs.Partition.{IsPartition, base_segments}
use Rattle.tgap_model.specs.History.{history_of}
use Rattle.tgap_model.specs.Merged.{MergedMap, merged}
use Rattle.tgap_model.specs.Slice.{slice}
use Rattle.tgap_model.specs.Records.{step_record, has_step, records_down, packet_of, undo, broken_rule}
use Rattle.record_laws.specs.UndoLaws.{RecordsFit, UndoGoesBack}
use Rattle.record_laws.specs.PacketLaws.{each_fits, PacketsFit, PacketsLead, PacketsJoin}

-- ---- records in a row

-- the records of some steps, and those of more
records_split : (h : MergedMap) (a b n from rest : ℕ) → n ≡ a + b → rest ≡ from - a → records_down h from n ≡ records_down h from a ++ records_down h rest b
records_split h zero b n from rest e f =
    let same : n ≡ b = omega (arith, e) in
    let here : from ≡ rest = omega (arith, f) in
    ap₂ (records_down h) here same
records_split h (suc a) b zero from rest e f = absurd (omega arith)
records_split h (suc a) b (suc n) from rest e f = by (has_step h from) (records_split h a b n (from - 1) rest (omega arith) (omega (arith, f)))
  where
    by : (v : Bool) → records_down h (from - 1) n ≡ records_down h (from - 1) a ++ records_down h rest b
        → cond v (step_record h from ∷ records_down h (from - 1) n) (records_down h (from - 1) n)
        ≡ cond v (step_record h from ∷ records_down h (from - 1) a) (records_down h (from - 1) a) ++ records_down h rest b
    by true g = ap (λ (rs : List StepRecord). step_record h from ∷ rs) g
    by false g = g

pub packets_join : PacketsJoin
unfolding packet_of
packets_join h from middle to low high =
    let split : from - to ≡ (from - middle) + (middle - to) = omega (arith, low, high) in
    let there : middle ≡ from - (from - middle) = omega (arith, high) in
    records_split h (from - middle) (middle - to) (from - to) from middle split there

-- ---- records that lead one step back each

module _ (fit : RecordsFit) (back : UndoGoesBack) (m : BaseMap) (base : is_base m ≡ true) (planar : IsPartition (base_segments m)) where
  record_there : (from : ℕ) → 1 ≤ from → from ≤ length (history_of m) → has_step (merged m) from ≡ true
  record_there from one last = and_from (nat_le 1 from) _ (le-leb 1 from one) (le-leb from (length (history_of m)) last)

  down_fits : (n from to : ℕ) → from ≡ to + n → from ≤ length (history_of m) → each_fits (slice m from) (records_down (merged m) from n) ≡ true
  down_fits zero from to e last = refl
  down_fits (suc n) from to e last =
      ap (λ (v : Bool). each_fits (slice m from) (cond v (step_record (merged m) from ∷ records_down (merged m) (from - 1) n) (records_down (merged m) (from - 1) n)))
      (record_there from (omega (arith, e)) last)
      ∙ and_from (is_none (broken_rule (slice m from) (step_record (merged m) from))) _
      (ap is_none (fit m base planar from (omega (arith, e)) last))
      (ap (λ (s : Slice). each_fits s (records_down (merged m) (from - 1) n)) (back m base planar from (omega (arith, e)) last)
      ∙ down_fits n (from - 1) to (omega (arith, e)) (omega (arith, last)))

  down_leads : (n from to : ℕ) → from ≡ to + n → from ≤ length (history_of m) → fold undo (slice m from) (records_down (merged m) from n) ≡ slice m to
  down_leads zero from to e last = ap (slice m) (omega (arith, e))
  down_leads (suc n) from to e last =
      ap (λ (v : Bool). fold undo (slice m from) (cond v (step_record (merged m) from ∷ records_down (merged m) (from - 1) n) (records_down (merged m) (from - 1) n)))
      (record_there from (omega (arith, e)) last)
      ∙ ap (λ (s : Slice). fold undo s (records_down (merged m) (from - 1) n)) (back m base planar from (omega (arith, e)) last)
      ∙ down_leads n (from - 1) to (omega (arith, e)) (omega (arith, last))

pub packets_fit_by : RecordsFit → UndoGoesBack → PacketsFit
unfolding packet_of
packets_fit_by fit back m base planar from to low last =
    let count : from ≡ to + (from - to) = omega (arith, low) in
    down_fits fit back m base planar (from - to) from to count last

pub packets_lead_by : RecordsFit → UndoGoesBack → PacketsLead
unfolding packet_of
packets_lead_by fit back m base planar from to low last =
    let count : from ≡ to + (from - to) = omega (arith, low) in
    down_leads fit back m base planar (from - to) from to count last
