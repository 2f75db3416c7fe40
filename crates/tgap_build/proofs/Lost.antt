-- The area that is told for a step is that of its loser.
use Rattle.std.proofs.Common.{◌≡◌, ◌≤◌, ◌<◌, ℕ, ◌+◌, ◌-◌, ℤ, pos, List, length, get_or, All, unsigned_abs, to_z, of_z, refl, ap, ◌∙◌, arith}
use Rattle.std.specs.Int.{w128}
use Rattle.std.proofs.lemmas.List.FromFn.{length-map-range_with_len, get_or-map-range_with_len}
use Rattle.tgap_model.specs.declared.merge.MergeStep.{MergeStep}
use Rattle.tgap_model.specs.Bounds.{max_area}
use Rattle.tgap_model.specs.Merged.{MergedMap, step_number, face_area}
use Rattle.face_merge.specs.Areas.{lost_areas}
use Rattle.face_merge.proofs.Sums.{face_area_is}

abbrev pub no_step : MergeStep
no_step = record { loser = 0; winner = 0; made = 0 }

module _ (h : MergedMap) (areas : List ℤ) (is : areas ≡ lost_areas h) where
  -- there is one for each step
  pub lost_count : length areas ≡ length h.steps
  lost_count = ap length is ∙ length-map-range_with_len (λ j. face_area h (j - 1) (step_number h j).loser) 1 (length h.steps)

  -- as the code hands it over
  pub lost_is : (i : ℕ) → i < length h.steps → All (λ area. unsigned_abs area ≤ max_area) areas
      → to_z w128 (of_z w128 (get_or areas i (pos 0))) ≡ face_area h (i + 1 - 1) (get_or h.steps i no_step).loser
  lost_is i inside small =
      let next : 1 + i ≡ i + 1 = omega arith in
      let back : i + 1 - 1 ≡ i = omega arith in
      face_area_is (get_or areas i (pos 0)) (get_or areas i (pos 0)) (small i (pos 0) (omega (arith, inside, lost_count))) refl
      ∙ ap (λ (zs : List ℤ). get_or zs i (pos 0)) is
      ∙ get_or-map-range_with_len (λ j. face_area h (j - 1) (step_number h j).loser) 1 (length h.steps) i (i + 1) (pos 0) inside next
      ∙ ap (λ (n : ℕ). face_area h (i + 1 - 1) (get_or h.steps n no_step).loser) back
