-- What each step of a history takes from the map, and what it makes: the area of its loser, and that of the new face.
use Rattle.std.specs.Prelude.{ℕ, ◌-◌, ℤ, pos, ◌+ℤ◌, List, map, length, slice_index_or, slice_set}
use Rattle.std.specs.List.{range_with_len}
use Rattle.tgap_model.specs.declared.merge.MergeStep.{MergeStep}
use Rattle.tgap_model.specs.Merged.{MergedMap, step_number, face_area}

-- twice the area of the loser of each of the first k steps, in order, as that face is just before the step
abbrev pub first_lost_areas : MergedMap → ℕ → List ℤ
first_lost_areas h k = map (λ j. face_area h (j - 1) (step_number h j).loser) (range_with_len 1 k)

-- twice the area of the loser of each step of the history, in order, as that face is just before the step
abbrev pub lost_areas : MergedMap → List ℤ
lost_areas h = first_lost_areas h (length h.steps)

-- where the areas of all faces so far are listed by number, that of the loser and that of the winner together
abbrev pub joined_area : List ℤ → MergeStep → ℤ
joined_area areas s = slice_index_or areas s.loser (pos 0) +ℤ slice_index_or areas s.winner (pos 0)

-- the areas with a part added to that of a face
abbrev pub added : List ℤ → ℕ → ℤ → List ℤ
added areas face part = slice_set areas face (slice_index_or areas face (pos 0) +ℤ part)
