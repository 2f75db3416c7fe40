-- The records of steps from one step down: one more is that of the next step down.
use Rattle.std.proofs.Common.{◌≡◌, ◌<◌, ◌≤◌, ℕ, zero, suc, ◌+◌, ◌-◌, Bool, true, cond, nat_le, List, [], ◌∷◌, ◌++◌, length, sym, ap, ap₂, ◌∙◌, arith}
use Rattle.std.proofs.lemmas.Bool.{and_from, le-leb}
use Rattle.tgap_model.specs.declared.record.StepRecord.{StepRecord}
use Rattle.tgap_model.specs.Merged.{MergedMap}
use Rattle.tgap_model.specs.Records.{has_step, step_record, records_down}

module _ (h : MergedMap) where
  there : (from : ℕ) → 1 ≤ from → from ≤ length h.steps → has_step h from ≡ true
  there from some within = and_from (nat_le 1 from) (nat_le from (length h.steps)) (le-leb 1 from some) (le-leb from (length h.steps) within)

  first : (from n : ℕ) → 1 ≤ from → from ≤ length h.steps → records_down h from (suc n) ≡ step_record h from ∷ records_down h (from - 1) n
  first from n some within =
      ap (λ (b : Bool). cond b (step_record h from ∷ records_down h (from - 1) n) (records_down h (from - 1) n)) (there from some within)

  pub one_more : (from n : ℕ) → n < from → from ≤ length h.steps
      → records_down h from n ++ step_record h (from - n) ∷ [] ≡ records_down h from (n + 1)
  one_more from zero some within =
      let whole : from - 0 ≡ from = omega arith in
      ap (λ (i : ℕ). step_record h i ∷ []) whole ∙ sym (first from 0 (omega (arith, some)) within)
  one_more from (suc n) some within =
      let down : from - suc n ≡ from - 1 - n = omega arith in
      let next : suc (n + 1) ≡ suc n + 1 = omega arith in
      ap₂ (λ (rs : List StepRecord) (i : ℕ). rs ++ step_record h i ∷ []) (first from n (omega (arith, some)) within) down
      ∙ ap (λ (rs : List StepRecord). step_record h from ∷ rs) (one_more (from - 1) n (omega (arith, some)) (omega (arith, within)))
      ∙ sym (first from (n + 1) (omega (arith, some)) within)
      ∙ ap (records_down h from) next
